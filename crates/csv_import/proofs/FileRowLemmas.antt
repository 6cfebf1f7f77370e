-- The rows of records in turn.
use Rattle.std.proofs.Common.{◌≡◌, ℕ, ◌+◌, Bool, List, [], ◌∷◌, ◌++◌, length, Option, Some, None, Result, Ok, Err, refl, sym, ap, ◌∙◌, append-nil, append_assoc, fold}
use Rattle.std.proofs.lemmas.List.Sums.{fold_push}
use Rattle.vocabulary.specs.ResultSteps.{◌>>=◌}
use Rattle.csv.specs.Machine.{next_record}
use Rattle.csv.specs.Reading.{Reached, default_config, strip_bom}
use Rattle.csv.specs.declared.parser.State.{State}
use Rattle.csv.specs.declared.parser.State.TheVariants as st
use Rattle.csv_import.specs.declared.fault.FileError.{FileError}
use Rattle.csv_import.specs.declared.fault.FileError.TheVariants.{BadRow, Twice, ReadFault, Memory}
use Rattle.csv_import.specs.FileErrors.{FileAgrees}
use Rattle.csv_import.specs.CsvTables.{one_record_more, parsed_rows, records_of, under_header}
use Rattle.csv_import.proofs.FileRecordLemmas.{records-begin, records-are}

module _ {Row : Type 0} (is_header : List (List ℕ) → Bool) (next_row : ℕ → List Row → List (List ℕ) → Result Row FileError) where
  abbrev pub after_record : Result (Option (List Row)) FileError → List (List ℕ) → Result (Option (List Row)) FileError
  after_record so_far fields = so_far >>= λ found. one_record_more is_header next_row found fields

  -- one record more
  pub rows_in-more : (rs : List (List (List ℕ))) (r : List (List ℕ)) (found : Option (List Row)) → parsed_rows is_header next_row rs ≡ Ok found
      → parsed_rows is_header next_row (rs ++ r ∷ []) ≡ one_record_more is_header next_row found r
  rows_in-more rs r found h = fold_push after_record (Ok None) rs r ∙ ap (λ so_far. after_record so_far r) h

  pub after-fault : (fault : FileError) (rs : List (List (List ℕ))) → fold after_record (Err fault) rs ≡ Err fault
  after-fault fault [] = refl
  after-fault fault (r ∷ rs) = after-fault fault rs

  fold-more : (so_far : Result (Option (List Row)) FileError) (rs more : List (List (List ℕ))) → fold after_record so_far (rs ++ more) ≡ fold after_record (fold after_record so_far rs) more
  fold-more so_far [] more = refl
  fold-more so_far (r ∷ rs) more = fold-more (after_record so_far r) rs more

  -- nothing behind a fault is looked at
  pub rows_in-fault : (fault : FileError) (rs more : List (List (List ℕ))) → parsed_rows is_header next_row rs ≡ Err fault → parsed_rows is_header next_row (rs ++ more) ≡ Err fault
  rows_in-fault fault rs more h = fold-more (Ok None) rs more ∙ ap (λ so_far. fold after_record so_far more) h ∙ after-fault fault more

  grow-step : (fields : List (List ℕ)) (table : List (List (List ℕ))) (found rows : List Row) (next : Result Row FileError) → next_row (length found + 2) found fields ≡ next
      → fold after_record (Ok (Some found)) (fields ∷ table) ≡ Ok (Some rows)
      → ((found' : List Row) → fold after_record (Ok (Some found')) table ≡ Ok (Some rows) → (more : List Row) × (rows ≡ found' ++ more)) → (more : List Row) × (rows ≡ found ++ more)
  grow-step fields table found rows (Ok row) is h rest =
      let further : fold after_record (Ok (Some (found ++ row ∷ []))) table ≡ Ok (Some rows) =
      sym (ap (λ next. fold after_record ((next >>= λ r. Ok (found ++ r ∷ [])) >>= λ rows. Ok (Some rows)) table) is) ∙ h in
      let grown = rest (found ++ row ∷ []) further in
      (row ∷ grown.0, grown.1 ∙ append_assoc found (row ∷ []) grown.0)
  grow-step fields table found rows (Err fault) is h rest =
      let stops : Err fault ≡ Ok (Some rows) =
      sym (after-fault fault table) ∙ sym (ap (λ next. fold after_record ((next >>= λ r. Ok (found ++ r ∷ [])) >>= λ rows. Ok (Some rows)) table) is) ∙ h in
      absurd (cc)

  -- rows are added at the end
  pub rows-grow : (table : List (List (List ℕ))) (found rows : List Row) → fold after_record (Ok (Some found)) table ≡ Ok (Some rows) → (more : List Row) × (rows ≡ found ++ more)
  rows-grow [] found rows h = (let same : found ≡ rows = cc in ([], sym same ∙ sym (append-nil found)))
  rows-grow (fields ∷ table) found rows h = grow-step fields table found rows (next_row (length found + 2) found fields) refl h (λ found' further. rows-grow table found' rows further)

  -- the rows of a text, all of whose records were reached
  pub rows-whole : (text : List ℕ) (rs : List (List (List ℕ))) (s : State) (ys : List ℕ) (found : Option (List Row)) → Reached default_config st.StartRecord (strip_bom text) rs s ys
      → next_record default_config s [] [] ys ≡ None → parsed_rows is_header next_row rs ≡ Ok found → parsed_rows is_header next_row (records_of text) ≡ Ok found
  rows-whole text rs s ys found reached ends h = ap (parsed_rows is_header next_row) (records-are default_config (strip_bom text) rs s ys reached ends) ∙ h

  -- the fault of a text, at a record that was reached
  pub rows-faulty : (text : List ℕ) (rs : List (List (List ℕ))) (s : State) (ys : List ℕ) (fault : FileError) → Reached default_config st.StartRecord (strip_bom text) rs s ys
      → parsed_rows is_header next_row rs ≡ Err fault → parsed_rows is_header next_row (records_of text) ≡ Err fault
  rows-faulty text rs s ys fault reached h =
      ap (parsed_rows is_header next_row) (records-begin default_config (strip_bom text) rs s ys reached) ∙ rows_in-fault fault rs _ h

-- the rows under a header that was found
pub under-header-ok : {Row : Type 0} (found : Result (Option (List Row)) FileError) (rows : List Row) → (found >>= under_header) ≡ Ok rows → found ≡ Ok (Some rows)
under-header-ok (Ok (Some found)) rows h = (let same : found ≡ rows = cc in ap (λ r. Ok (Some r)) same)
under-header-ok (Ok None) rows h = absurd (cc)
under-header-ok (Err fault) rows h = absurd (cc)

-- a fault is given whatever the reading was to give
pub gives-fault : {X Y Z W : Type 0} (seen : X → Y) (other : Z → W) (fault : FileError) (answer : Result W FileError) (whole : Result Y FileError)
    → FileAgrees other (Err fault) answer → (answer ≡ Err fault → whole ≡ Err fault) → FileAgrees seen (Err fault) whole
gives-fault seen other (BadRow line why) answer whole given so = so given
gives-fault seen other (Twice line) answer whole given so = so given
gives-fault seen other ReadFault answer whole given so = given
gives-fault seen other Memory answer whole given so = tt

-- what is given of an answer is given of one that is the same
pub gives-same : {X Y : Type 0} (seen : X → Y) (returned : Result X FileError) (answer whole : Result Y FileError) → FileAgrees seen returned answer → whole ≡ answer → FileAgrees seen returned whole
gives-same seen (Ok x) answer whole given same = same ∙ given
gives-same seen (Err (BadRow line why)) answer whole given same = same ∙ given
gives-same seen (Err (Twice line)) answer whole given same = same ∙ given
gives-same seen (Err ReadFault) answer whole given same = given
gives-same seen (Err Memory) answer whole given same = tt
