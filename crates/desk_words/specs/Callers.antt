-- Callers, and the order of callers.
use Rattle.std.specs.Prelude.{ℕ, Bool, true, false, List, Option, Some, None, option_map, bytes_eq, if◌then◌else◌}
use Rattle.vocabulary.specs.Names.{office_name, party_of, same_name}
use Rattle.desk_words.specs.declared.caller.Caller.{Caller}
use Rattle.desk_words.specs.declared.caller.Caller.TheVariants.{Office, Party}

-- the caller that the bytes name
abbrev pub caller_of : List ℕ → Option Caller
caller_of bytes =
    if bytes_eq bytes office_name then Some Office else option_map (λ p. Party p) (party_of bytes)

-- the party that calls, or none for the office
abbrev pub party_in : Caller → Option (List ℕ)
party_in Office = None
party_in (Party p) = Some p

-- both are the same caller
abbrev pub is_caller : Caller → Caller → Bool
is_caller Office Office = true
is_caller (Party p) (Party q) = same_name p q
is_caller _ _ = false
