-- Keys, compared.
use Rattle.std.specs.Prelude.{Bool, ◌&&◌, ◌==◌, List, length}
use Rattle.std.specs.List.{list_all, zip}
use Rattle.vocabulary.specs.Names.{same_name}
use Rattle.desk_words.specs.Callers.{is_caller}
use Rattle.desk_words.specs.declared.caller.KeyRow.{KeyRow}

-- both rows give one caller one key
abbrev pub same_key_row : KeyRow → KeyRow → Bool
same_key_row a b = is_caller a.caller b.caller && same_name a.secret b.secret

-- both are the same rows in the same order, which for lists of keys is that they are the same set
-- of rows
abbrev pub same_keys : List KeyRow → List KeyRow → Bool
same_keys a b = length a == length b && list_all (λ pair. same_key_row pair.0 pair.1) (zip a b)
