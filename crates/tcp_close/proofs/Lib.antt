mod GaveLemmas
