-- What stands at some names in the object that a text is.
use Rattle.std.proofs.Common.{◌≡◌, ℕ, List, [], ◌∷◌, length, Bool, true, true≢false, false, cond, Option, Some, None, option_map, option_and_then, refl, sym, ap, ◌∙◌, arith}
use Rattle.json.specs.Lex.{tokens}
use Rattle.std.specs.Prelude.{is_some}
use Rattle.json.specs.Token.{Token}
use Rattle.json.specs.Reads.{Yields}
use Rattle.json.specs.declared.token.Token.{Token as Read}
use Rattle.json.specs.Json as json
use Rattle.json.proofs.Grammar.{value-begin_array, value-begin_object, value_is}
use Rattle.serde_json.specs.Data.{Num, Data, Items, Members, array, no_members, number, object}
use Rattle.serde_json.specs.Read.{converted, max_depth, number_of, of_items, of_json, read}
use Rattle.vocabulary.specs.OptionSteps.{◌>>=◌}
use Rattle.json_requests.specs.Bodies.{fields_from}
use Rattle.json_requests.specs.BodyValues.{members_data, members_fit}
use Rattle.json_requests.specs.JsonFields.{Fields, fields_among, fields_in}
use Rattle.json_requests.specs.MemberFields.{members_say, nested, object_read}
use Rattle.json_requests.proofs.BodyValueLemmas.{of_members-fit}

-- what was read, if no token is left
abbrev pub ended : Fields × List Token → Option Fields
ended (fields, []) = Some fields
ended (fields, t ∷ ts) = None

ended-last : (o : Option Fields) → o ≡ option_and_then ended (option_map (λ fields. (fields, [])) o)
ended-last None = refl
ended-last (Some fields) = refl

ended-more : (t : Token) (ts : List Token) (o : Option Fields) → None ≡ option_and_then ended (option_map (λ fields. (fields, t ∷ ts)) o)
ended-more t ts None = refl
ended-more t ts (Some fields) = refl

abbrev of_last : Option (json.Json × List Token) → Option Data
of_last o = option_and_then of_json (option_and_then (λ p. json.if_last p.0 p.1) o)

module _ (names : List (List ℕ)) where
  no_array : (o : Option Items) → option_map array o >>= fields_in names ≡ None
  unfolding fields_in
  no_array None = refl
  no_array (Some ds) = refl

  no_number : (o : Option Num) → option_map number o >>= fields_in names ≡ None
  unfolding fields_in
  no_number None = refl
  no_number (Some n) = refl

  no_object : (j : json.Json) (ts : List Token) → of_json j >>= fields_in names ≡ None → of_last (Some (j, ts)) >>= fields_in names ≡ None
  no_object j [] none = none
  no_object j (t ∷ ts) none = refl

  no_items : (o : Option (json.Items × List Token)) → of_last (json.parse_map json.array o) >>= fields_in names ≡ None
  no_items None = refl
  no_items (Some p) = no_object (json.array p.0) p.1 (no_array (of_items p.0))

  -- what is no object has no fields
  other : (t : Token) (ts : List Token) → (t ≡ Token.begin_object → ⊥) → of_last (json.value max_depth (t ∷ ts)) >>= fields_in names ≡ None
  unfolding fields_in
  other Token.begin_object ts not_first = absurd (not_first refl)
  other Token.end_object ts not_first = ap (λ o. of_last o >>= fields_in names) (value_is max_depth (Token.end_object ∷ ts))
  other Token.begin_array ts not_first = ap (λ o. of_last o >>= fields_in names) (value-begin_array max_depth ts (omega arith)) ∙ no_items (json.items (json.value nested) (length ts) ts)
  other Token.end_array ts not_first = ap (λ o. of_last o >>= fields_in names) (value_is max_depth (Token.end_array ∷ ts))
  other (Token.key s) ts not_first = ap (λ o. of_last o >>= fields_in names) (value_is max_depth (Token.key s ∷ ts))
  other (Token.string s) ts not_first = ap (λ o. of_last o >>= fields_in names) (value_is max_depth (Token.string s ∷ ts)) ∙ no_object (json.string s) ts refl
  other (Token.number s) ts not_first = ap (λ o. of_last o >>= fields_in names) (value_is max_depth (Token.number s ∷ ts)) ∙ no_object (json.number s) ts (no_number (number_of s))
  other (Token.boolean b) ts not_first = ap (λ o. of_last o >>= fields_in names) (value_is max_depth (Token.boolean b ∷ ts)) ∙ no_object (json.boolean b) ts refl
  other Token.null ts not_first = ap (λ o. of_last o >>= fields_in names) (value_is max_depth (Token.null ∷ ts)) ∙ no_object json.null ts refl
  other Token.bad ts not_first = ap (λ o. of_last o >>= fields_in names) (value_is max_depth (Token.bad ∷ ts))

  closed : (b : Bool) (ms : Members) → option_map object (cond b (Some ms) None) >>= fields_in names ≡ option_and_then ended (option_map (λ fields. (fields, [])) (cond b (fields_among names ms) None))
  unfolding fields_in
  closed true ms = ended-last (fields_among names ms)
  closed false ms = refl

  an_object : (o : Option (json.Members × List Token)) → of_last (json.parse_map json.object o) >>= fields_in names ≡ option_and_then ended (converted (members_say names) o)
  an_object None = refl
  an_object (Some (ms, [])) = ap (λ o. option_map object o >>= fields_in names) (of_members-fit ms no_members) ∙ closed (members_fit ms) (members_data ms no_members)
  an_object (Some (ms, t ∷ ts)) = ended-more t ts (members_say names ms)

  of_tokens : (ts : List Token) → of_last (json.value max_depth ts) >>= fields_in names ≡ option_and_then ended (object_read names ts)
  of_tokens [] = ap (λ o. of_last o >>= fields_in names) (value_is max_depth [])
  of_tokens (Token.begin_object ∷ ts) = ap (λ o. of_last o >>= fields_in names) (value-begin_object max_depth ts (omega arith)) ∙ an_object (json.members (json.value nested) (length ts) ts)
  of_tokens (Token.end_object ∷ ts) = other Token.end_object ts (λ e. cc)
  of_tokens (Token.begin_array ∷ ts) = other Token.begin_array ts (λ e. cc)
  of_tokens (Token.end_array ∷ ts) = other Token.end_array ts (λ e. cc)
  of_tokens (Token.key s ∷ ts) = other (Token.key s) ts (λ e. cc)
  of_tokens (Token.string s ∷ ts) = other (Token.string s) ts (λ e. cc)
  of_tokens (Token.number s ∷ ts) = other (Token.number s) ts (λ e. cc)
  of_tokens (Token.boolean b ∷ ts) = other (Token.boolean b) ts (λ e. cc)
  of_tokens (Token.null ∷ ts) = other Token.null ts (λ e. cc)
  of_tokens (Token.bad ∷ ts) = other Token.bad ts (λ e. cc)

  -- a text says what the object says that its tokens are, and no more
  pub text-fields : (text : List ℕ) → fields_from names (read text) ≡ option_and_then ended (object_read names (tokens text))
  text-fields text = of_tokens (tokens text)

  pub text-none : (text : List ℕ) → object_read names (tokens text) ≡ None → fields_from names (read text) ≡ None
  text-none text none = text-fields text ∙ ap (option_and_then ended) none

  module _ (text : List ℕ) (fields : Fields) (rest new : List Token) (is : object_read names (tokens text) ≡ Some (fields, rest)) where
    pub text-more : (next : Option Read) → Yields rest next new → is_some next ≡ true → fields_from names (read text) ≡ None
    text-more None given some = absurd (true≢false (sym some))
    text-more (Some t) given some = text-fields text ∙ ap (option_and_then ended) is ∙ ap (λ ts. ended (fields, ts)) given

    pub text-ended : (next : Option Read) → Yields rest next new → is_some next ≡ false → fields_from names (read text) ≡ Some fields
    text-ended None given none = text-fields text ∙ ap (option_and_then ended) is ∙ ap (λ ts. ended (fields, ts)) given.0
    text-ended (Some t) given none = absurd (true≢false none)
