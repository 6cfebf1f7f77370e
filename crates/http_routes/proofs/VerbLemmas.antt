-- The words of verbs are UTF-8.
use Rattle.std.proofs.Common.{◌≡◌, ℕ, List, [], ◌∷◌, true, find, None, refl, sym, subst, inl, inr}
use Rattle.std.specs.Prelude.{bytes_eq}
use Rattle.std.specs.Str.{IsUtf8, is_utf8, chars}
use Rattle.std.specs.List.{list_all}
use Rattle.std.proofs.lemmas.Bool.{and_parts, cases_Bool}
use Rattle.std.proofs.lemmas.Slice.Eq.{bytes_eq-Decides}
use Rattle.std.proofs.lemmas.Str.{IsUtf8-from_is_utf8}
use Rattle.json_requests.specs.declared.verb.Verb.{Verb}
use Rattle.json_requests.specs.Routes.{route_of}
use Rattle.json_requests.specs.Verbs.{verbs, verb_of, verb_word}

-- what is not UTF-8 is none of words that are
none_of : (listed : List Verb) → list_all (λ verb. is_utf8 (verb_word verb)) listed ≡ true → (word : List ℕ) → ¬ IsUtf8 word → find (λ verb. bytes_eq word (verb_word verb)) listed ≡ None
none_of [] texts word none = refl
none_of (verb ∷ rest) texts word none =
    let both = and_parts (is_utf8 (verb_word verb)) (list_all (λ v. is_utf8 (verb_word v)) rest) texts in
    elim (cases_Bool (bytes_eq word (verb_word verb))) [
      | inl is ↦ absurd (none (subst IsUtf8 (sym ((bytes_eq-Decides word (verb_word verb)).0 is)) (IsUtf8-from_is_utf8 (verb_word verb) both.0)))
      | inr is ↦ rw is (none_of rest both.1 word none)
    ]

-- what is not UTF-8 is no verb's word
unlisted : (word : List ℕ) → ¬ IsUtf8 word → verb_of word ≡ None
unfolding is_utf8 chars lib.Utf8.encode
unlisted word none = none_of verbs refl word none

-- and leads nowhere
pub no_route : (meeting verb : List ℕ) → ¬ IsUtf8 verb → route_of meeting verb ≡ None
unfolding route_of
no_route meeting verb none = rw (unlisted verb none) refl
