-- Bodies in a plain form.
use Rattle.std.proofs.Common.{◌≡◌, ℕ, zero, suc, ◌+◌, ◌<◌, ◌≤◌, ◌==◌, List, [], ◌∷◌, ◌++◌, length, map, Vec, ◌-◌, length-append, append-nil, take, drop, get_or, replicate, Bool, true, false, Option, Some, None, option_and_then, bytes_eq, subst, lt-ltb, Bor, Global, refl, sym, ap, ◌∙◌, arith, rules, append_assoc, ne_eqb, leb-true, le-ltb}
use Rattle.std.specs.Prelude.{◌&&◌, ◌||◌, not, nat_le, nat_lt, is_some, fold, slice_set}
use Rattle.std.specs.List.{position_from}
use Rattle.std.proofs.lemmas.Slice.Eq.{bytes_eq-Decides}
use Rattle.json.specs.Lex.{tokens}
use Rattle.json.proofs.Printed.Tokens.{ends_push, tokens-print, print_from_push, print_from-append}
use Rattle.serde_json.specs.Read.{read}
use Rattle.json_requests.specs.Bodies.{fields_from}
use Rattle.json_requests.specs.JsonFields.{fields_view}
use Rattle.json_requests.proofs.FieldLemmas.{Gathers, first-there, gathers-end, gathers-none, gathers-turn, take-set_within}
use Rattle.json_requests.proofs.TextFieldLemmas.{ended, text-fields}
use Rattle.std.proofs.lemmas.Bool.{and_parts}
use Rattle.std.proofs.lemmas.List.{drop_more, length-map, map-append, take-append-drop}
use Rattle.json.specs.Token.{Token}
use Rattle.json.specs.Json as json
use Rattle.json.specs.Print.{ends, escape, escape_byte, print, print_from, quoted, separator, token_text, ArePrintable, IsNumber, IsPrintable}
use Rattle.json.specs.Value.{items_of, value_view}
use Rattle.json.specs.declared.value.Value.{Value, Array, String, Number, the_lemmas}
use Rattle.json.proofs.Grammar.{items_end, items_more, value-begin_array, value_is}
use Rattle.json.proofs.Trees.{view-Array}
use Rattle.json_requests.specs.BodyValues.{items_fit}
use Rattle.serde_json.specs.Read.{number_of}
use Rattle.json_requests.specs.MemberFields.{all_differ, fitting, nested, object_read, texts}
use Rattle.json_requests.specs.PlainBodies.{all_plain, are_plain, comma_before, is_plain, BeginsStrings, BeginsWith, PutsMember, PutsMembers}

not_false : (b : Bool) → not b ≡ true → b ≡ false
not_false false is = refl
not_false true is = sym is

plain_byte : (x : ℕ) → is_plain x ≡ true → escape_byte x ≡ x ∷ []
unfolding escape_byte
plain_byte x is =
    let both = and_parts (nat_le 32 x && not (x == 34)) (not (x == 92)) is in
    let front = and_parts (nat_le 32 x) (not (x == 34)) both.0 in
    let large : 32 ≤ x = leb-true 32 x front.0 in
    rw (not_false (x == 34) front.1, not_false (x == 92) both.1, ne_eqb x 8 (omega (arith, large)), ne_eqb x 12 (omega (arith, large)), ne_eqb x 10 (omega (arith, large)), ne_eqb x 13 (omega (arith, large)), ne_eqb x 9 (omega (arith, large)), le-ltb x 32 large)

escape_plain : (s : List ℕ) → are_plain s ≡ true → escape s ≡ s
escape_plain [] is = refl
escape_plain (x ∷ s) is =
    let both = and_parts (is_plain x) (are_plain s) is in
    ap (λ e. e ++ escape s) (plain_byte x both.0) ∙ ap (λ l. x ∷ l) (escape_plain s both.1)

pub quoted-rest : (s rest : List ℕ) → are_plain s ≡ true → quoted s ++ rest ≡ 34 ∷ (s ++ 34 ∷ rest)
quoted-rest s rest plain = ap (λ l. 34 ∷ l) (append_assoc (escape s) (34 ∷ []) rest ∙ ap (λ e. e ++ 34 ∷ rest) (escape_plain s plain))

pub key-rest : (s rest : List ℕ) → are_plain s ≡ true → token_text (Token.key s) ++ rest ≡ 34 ∷ (s ++ 34 ∷ 58 ∷ rest)
key-rest s rest plain = append_assoc (quoted s) (58 ∷ []) rest ∙ quoted-rest s (58 ∷ rest) plain

view-String : (b : Bor (List ℕ)) → value_view {A = Global} (String b) ≡ json.string b.now
view-String b = search (rules, the_lemmas)

view-Number : (b : Bor (List ℕ)) → value_view {A = Global} (Number b) ≡ json.number b.now
view-Number b = search (rules, the_lemmas)

printed : (t : Token) (rest : List ℕ) → token_text t ++ rest ≡ print_from false (t ∷ []) ++ rest
unfolding print_from
printed t rest = ap (λ l. l ++ rest) (sym (append-nil (token_text t)))

single : (t : Token) → IsPrintable t → ArePrintable (t ∷ [])
unfolding ArePrintable
single t h = (h, tt)

pub begins-string : (b : Bor (List ℕ)) (text rest : List ℕ) → text ≡ 34 ∷ (b.now ++ 34 ∷ rest) → are_plain b.now ≡ true → BeginsWith (String b) text rest
begins-string b text rest is plain = record {
  tokens = Token.string b.now ∷ [];
  text_is = is ∙ sym (quoted-rest b.now rest plain) ∙ printed (Token.string b.now) rest;
  printable = single (Token.string b.now) tt;
  ended = refl;
  some = omega arith;
  read = λ ts. ap fitting (value_is nested (Token.string b.now ∷ ts)) ∙ ap (λ j. Some (j, ts)) (sym (view-String b));
}

fits_number : (s : List ℕ) (ts : List Token) → is_some (number_of s) ≡ true → fitting (Some (json.number s, ts)) ≡ Some (json.number s, ts)
fits_number s ts fit = rw fit

pub begins-number : (b : Bor (List ℕ)) (text rest : List ℕ) → text ≡ b.now ++ rest → IsNumber b.now → is_some (number_of b.now) ≡ true → BeginsWith (Number b) text rest
begins-number b text rest is printable fit = record {
  tokens = Token.number b.now ∷ [];
  text_is = is ∙ printed (Token.number b.now) rest;
  printable = single (Token.number b.now) printable;
  ended = refl;
  some = omega arith;
  read = λ ts. ap fitting (value_is nested (Token.number b.now ∷ ts)) ∙ fits_number b.now ts fit ∙ ap (λ j. Some (j, ts)) (sym (view-Number b));
}

-- a text with a name in front of a quotation mark
pub name-rest : (text name found rest : List ℕ) → length name < length text → get_or text (length name) 0 ≡ 34 → found ≡ take (length name) text → bytes_eq found name ≡ true → rest ≡ drop (length name + 1) text → text ≡ name ++ 34 ∷ rest
name-rest text name found rest long mark front same back =
    let n = length name in
    let is : take n text ≡ name = sym front ∙ (bytes_eq-Decides found name).0 same in
    sym (take-append-drop n text) ∙ ap (λ s. s ++ drop n text) is ∙ ap (λ l. name ++ l) (drop_more text n 0 long ∙ ap (λ y. y ∷ drop (n + 1) text) mark ∙ ap (λ l. 34 ∷ l) (sym back))

pub plain-at : (names : List (Bor (List ℕ))) (i : ℕ) (d : Bor (List ℕ)) → all_plain (texts names) ≡ true → i < length names → are_plain (get_or names i d).now ≡ true
plain-at [] i d is lt = absurd (omega (arith, lt))
plain-at (n ∷ names) zero d is lt = (and_parts (are_plain n.now) (all_plain (texts names)) is).0
plain-at (n ∷ names) (suc i) d is lt = plain-at names i d (and_parts (are_plain n.now) (all_plain (texts names)) is).1 (omega (arith, lt))

-- ---- members

pair-text : (c : Bool) (name : List ℕ) (us : List Token) (left : List ℕ) → comma_before c ++ (token_text (Token.key name) ++ (print_from false us ++ left)) ≡ print_from c (Token.key name ∷ us) ++ left
unfolding print_from
pair-text true name us left = ap (λ l. 44 ∷ l) (sym (append_assoc (token_text (Token.key name)) (print_from false us) left))
pair-text false name us left = sym (append_assoc (token_text (Token.key name)) (print_from false us) left)

ends_more : (c : Bool) (ts : List Token) (k : Token) (us : List Token) → fold (λ _ u. ends u) c (ts ++ k ∷ us) ≡ fold (λ _ u. ends u) (ends k) us
ends_more c [] k us = refl
ends_more c (u ∷ ts) k us = ends_more (ends u) ts k us

printable_more : (ts : List Token) (k : Token) (us : List Token) → ArePrintable ts → IsPrintable k → ArePrintable us → ArePrintable (ts ++ k ∷ us)
unfolding ArePrintable
printable_more [] k us h a b = (a, b)
printable_more (u ∷ ts) k us h a b = (h.0, printable_more ts k us h.1 a b)

printable_one : (ts : List Token) (t : Token) → ArePrintable ts → IsPrintable t → ArePrintable (ts ++ t ∷ [])
unfolding ArePrintable
printable_one [] t h b = (b, tt)
printable_one (u ∷ ts) t h b = (h.0, printable_one ts t h.1 b)

-- The members before a place are read, and the tokens are theirs.
pub record Puts (names : List (Bor (List ℕ))) (place : ℕ) (vs : List (Option (Value Global))) (text rest : List ℕ) : Type 0 where
  pub tokens : List Token
  pub text_is : text ≡ print_from false tokens ++ rest
  pub ended : fold (λ _ t. ends t) false tokens ≡ nat_lt 0 place
  pub printable : ArePrintable tokens
  pub gathers : (ts : List Token) → Gathers names (tokens ++ ts) ts vs

pub puts-none : (names : List (Bor (List ℕ))) (vs : List (Option (Value Global))) (text : List ℕ) → vs ≡ replicate (length names) None → Puts names 0 vs text text
unfolding print_from ArePrintable
puts-none names vs text none = record {
  tokens = [];
  text_is = refl;
  ended = refl;
  printable = tt;
  gathers = λ ts. gathers-none names ts vs none;
}

module _ (names : List (Bor (List ℕ))) (place : ℕ) (old new : List (Option (Value Global))) (text rest left : List ℕ) (d : Bor (List ℕ)) where
  pub puts-more : Puts names place (take (length names) old) text rest → PutsMember place (get_or names place d).now old new rest left → place < length names → all_differ (texts names) ≡ true
      → Puts names (place + 1) (take (length names) new) text left
  puts-more p m within differ =
      let name = (get_or names place d).now in
      let us = m.begins.tokens in
      let pair = Token.key name ∷ us in
      let here : rest ≡ print_from (fold (λ _ u. ends u) false p.tokens) pair ++ left =
      m.text_is ∙ ap (λ l. comma_before (nat_lt 0 place) ++ (token_text (Token.key name) ++ l)) m.begins.text_is ∙ pair-text (nat_lt 0 place) name us left ∙ ap (λ c. print_from c pair ++ left) (sym p.ended) in
      let first : position_from (λ (own : Bor (List ℕ)). bytes_eq own.now name) 0 names ≡ Some place = first-there names 0 place name d differ within ((bytes_eq-Decides name name).1 refl) ∙ ap Some (omega arith) in
      let put : take (length names) new ≡ slice_set (take (length names) old) place (Some m.value) = ap (take (length names)) m.put ∙ take-set_within (length names) old place (Some m.value) in
      let gathered : (ts : List Token) → Gathers names (p.tokens ++ Token.key name ∷ (us ++ ts)) ts (take (length names) new) =
      λ ts. gathers-turn names (p.tokens ++ Token.key name ∷ (us ++ ts)) (Token.key name ∷ (us ++ ts)) (take (length names) old) (p.gathers (Token.key name ∷ (us ++ ts))) name (us ++ ts) refl m.value ts (m.begins.read ts) place _ first differ put (omega (arith, m.begins.some, length-append us ts)) in
      record {
        tokens = p.tokens ++ pair;
        text_is = p.text_is ∙ ap (λ l. print_from false p.tokens ++ l) here ∙ sym (append_assoc (print_from false p.tokens) _ left) ∙ ap (λ l. l ++ left) (sym (print_from-append false p.tokens pair));
        ended = ends_more false p.tokens (Token.key name) us ∙ m.begins.ended ∙ sym (lt-ltb 0 (place + 1) (omega arith));
        printable = printable_more p.tokens (Token.key name) us p.printable tt m.begins.printable;
        gathers = λ ts. subst (λ all. Gathers names all ts (take (length names) new)) (sym (append_assoc p.tokens pair ts)) (gathered ts);
      }

pub puts-all : (names : List (Bor (List ℕ))) (place : ℕ) (vs : List (Option (Value Global))) (text rest : List ℕ) → Puts names place vs text rest → PutsMembers names vs text rest
puts-all names place vs text rest p = record {
  tokens = p.tokens;
  text_is = p.text_is;
  printable = p.printable;
  read = gathers-end names _ (Token.end_object ∷ []) vs (p.gathers (Token.end_object ∷ [])) [] refl;
}

end-text : (c : Bool) → separator c Token.end_object ++ token_text Token.end_object ≡ 125 ∷ []
end-text true = refl
end-text false = refl

object-text : (ts : List Token) → print (Token.begin_object ∷ ts) ≡ 123 ∷ print_from false ts
unfolding print_from
object-text ts = refl

object_printable : (ts : List Token) → ArePrintable ts → ArePrintable (Token.begin_object ∷ ts)
unfolding ArePrintable
object_printable ts h = (tt, h)

-- what a plain object says
pub plain-read : (names : List (Bor (List ℕ))) (vs : List (Option (Value Global))) (text members rest : List ℕ) → text ≡ 123 ∷ members → PutsMembers names vs members rest → rest ≡ 125 ∷ []
    → fields_from (texts names) (read text) ≡ Some (fields_view vs)
plain-read names vs text members rest is m last =
    let all = m.tokens ++ Token.end_object ∷ [] in
    let inner : members ≡ print_from false all =
    m.text_is ∙ ap (λ l. print_from false m.tokens ++ l) (last ∙ sym (end-text (fold (λ _ u. ends u) false m.tokens))) ∙ sym (print_from_push false m.tokens Token.end_object) in
    let seen : tokens text ≡ Token.begin_object ∷ all =
    ap tokens (is ∙ ap (λ l. 123 ∷ l) inner ∙ sym (object-text all)) ∙ tokens-print (Token.begin_object ∷ all) (object_printable all (printable_one m.tokens Token.end_object m.printable tt)) in
    text-fields (texts names) text ∙ ap (λ ts. option_and_then ended (object_read (texts names) ts)) seen ∙ ap (option_and_then ended) m.read

-- ---- arrays of strings

strings_read : (ss : List (List ℕ)) (n : ℕ) (ts : List Token) → length (map Token.string ss ++ Token.end_array ∷ ts) ≤ n
    → json.items (json.value 125) n (map Token.string ss ++ Token.end_array ∷ ts) ≡ Some (items_of (map json.string ss), ts)
strings_read [] n ts le = items_end (json.value 125) n (Token.end_array ∷ ts) ts le refl
strings_read (s ∷ ss) n ts le =
    let rest = map Token.string ss ++ Token.end_array ∷ ts in
    items_more (json.value 125) n (Token.string s ∷ rest) rest (json.string s) (omega (arith, le)) refl (value_is 125 (Token.string s ∷ rest))
    ∙ ap (json.parse_map (json.item (json.string s))) (strings_read ss (n - 1) ts (omega (arith, le)))

strings_fit : (ss : List (List ℕ)) → items_fit (items_of (map json.string ss)) ≡ true
strings_fit [] = refl
strings_fit (s ∷ ss) = strings_fit ss

fits_strings : (ss : List (List ℕ)) (ts : List Token) → fitting (Some (json.array (items_of (map json.string ss)), ts)) ≡ Some (json.array (items_of (map json.string ss)), ts)
fits_strings ss ts = rw (strings_fit ss)

strings_printable : (ss : List (List ℕ)) → ArePrintable (map Token.string ss)
unfolding ArePrintable
strings_printable [] = tt
strings_printable (s ∷ ss) = (tt, strings_printable ss)

end_of_array : (c : Bool) → separator c Token.end_array ++ token_text Token.end_array ≡ 93 ∷ []
end_of_array true = refl
end_of_array false = refl

array-text : (ts : List Token) → print_from false (Token.begin_array ∷ ts) ≡ 91 ∷ print_from false ts
unfolding print_from
array-text ts = refl

array_printable : (ts : List Token) → ArePrintable ts → ArePrintable (Token.begin_array ∷ ts)
unfolding ArePrintable
array_printable ts h = (tt, h)

pub begins-array : (v : Vec (Value Global) Global) (text inner rest : List ℕ) → text ≡ 91 ∷ inner → BeginsStrings v.items inner (93 ∷ rest) → BeginsWith (Array v) text rest
begins-array v text inner rest is m =
    let ss = map Token.string m.strings in
    let all = ss ++ Token.end_array ∷ [] in
    let body : inner ≡ print_from false all ++ rest =
    m.text_is ∙ sym (append_assoc (print_from false ss) (93 ∷ []) rest)
    ∙ ap (λ l. (print_from false ss ++ l) ++ rest) (sym (end_of_array (fold (λ _ u. ends u) false ss))) ∙ ap (λ l. l ++ rest) (sym (print_from_push false ss Token.end_array)) in
    record {
      tokens = Token.begin_array ∷ all;
      text_is = is ∙ ap (λ l. 91 ∷ l) body ∙ ap (λ l. l ++ rest) (sym (array-text all));
      printable = array_printable all (printable_one ss Token.end_array (strings_printable m.strings) tt);
      ended = ends_push false ss Token.end_array;
      some = omega arith;
      read = λ ts.
          ap (λ l. fitting (json.value nested (Token.begin_array ∷ l))) (append_assoc ss (Token.end_array ∷ []) ts)
          ∙ ap fitting (value-begin_array nested (ss ++ Token.end_array ∷ ts) (omega arith) ∙ ap (json.parse_map json.array) (strings_read m.strings _ ts (omega arith)))
          ∙ fits_strings m.strings ts
          ∙ ap (λ js. Some (json.array (items_of js), ts)) (sym m.views)
          ∙ ap (λ j. Some (j, ts)) (sym (view-Array v));
    }

strings-ended : (c : Bool) (ss : List (List ℕ)) → fold (λ _ u. ends u) c (map Token.string ss) ≡ (c || nat_lt 0 (length ss))
strings-ended true [] = refl
strings-ended false [] = refl
strings-ended true (s ∷ ss) = strings-ended true ss
strings-ended false (s ∷ ss) = strings-ended true ss ∙ sym (lt-ltb 0 (suc (length ss)) (omega arith))

item-text : (c : Bool) (s : List ℕ) → separator c (Token.string s) ≡ comma_before c
item-text true s = refl
item-text false s = refl

pub strings-none : (text : List ℕ) → BeginsStrings [] text text
unfolding print_from
strings-none text = record { strings = []; text_is = refl; views = refl }

pub strings-more : (vs new : List (Value Global)) (text rest item left : List ℕ) (b : Bor (List ℕ)) → BeginsStrings vs text rest → rest ≡ comma_before (nat_lt 0 (length vs)) ++ item → item ≡ 34 ∷ (b.now ++ 34 ∷ left)
    → are_plain b.now ≡ true → new ≡ vs ++ String b ∷ [] → BeginsStrings new text left
strings-more vs new text rest item left b m is string plain put =
    let ss = map Token.string m.strings in
    let count : length m.strings ≡ length vs = sym (length-map m.strings json.string) ∙ ap length (sym m.views) ∙ length-map vs value_view in
    let ended : fold (λ _ u. ends u) false ss ≡ nat_lt 0 (length vs) = strings-ended false m.strings ∙ ap (λ n. nat_lt 0 n) count in
    let here : rest ≡ (separator (fold (λ _ u. ends u) false ss) (Token.string b.now) ++ token_text (Token.string b.now)) ++ left =
    is ∙ ap (λ l. comma_before (nat_lt 0 (length vs)) ++ l) (string ∙ sym (quoted-rest b.now left plain))
    ∙ ap (λ c. c ++ (quoted b.now ++ left)) (sym (item-text (nat_lt 0 (length vs)) b.now) ∙ ap (λ c. separator c (Token.string b.now)) (sym ended))
    ∙ sym (append_assoc (separator (fold (λ _ u. ends u) false ss) (Token.string b.now)) (quoted b.now) left) in
    record {
      strings = m.strings ++ b.now ∷ [];
      text_is = m.text_is ∙ ap (λ l. print_from false ss ++ l) here ∙ sym (append_assoc (print_from false ss) _ left)
          ∙ ap (λ l. l ++ left) (sym (print_from_push false ss (Token.string b.now)) ∙ ap (print_from false) (sym (map-append Token.string m.strings (b.now ∷ []))));
      views = ap (map value_view) put ∙ map-append value_view vs (String b ∷ []) ∙ ap (λ js. js ++ value_view {A = Global} (String b) ∷ []) m.views ∙ ap (λ j. map json.string m.strings ++ j ∷ []) (view-String b) ∙ sym (map-append json.string m.strings (b.now ∷ []));
    }
