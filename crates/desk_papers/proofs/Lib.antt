pub mod PaperResultLemmas
