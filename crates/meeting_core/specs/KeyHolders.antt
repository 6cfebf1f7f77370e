-- Whose key it is.
use Rattle.std.specs.Prelude.{ℕ, List, Option, find, option_map}
use Rattle.vocabulary.specs.Names.{same_name}
use Rattle.desk_words.specs.declared.caller.Caller.{Caller}
use Rattle.desk_words.specs.declared.caller.KeyRow.{KeyRow}

-- the caller whose key it is, or none where no key equals it
abbrev pub caller_with : List KeyRow → List ℕ → Option Caller
caller_with keys key =
    option_map (λ (row : KeyRow). row.caller)
    (find (λ (row : KeyRow). same_name row.secret key) keys)
