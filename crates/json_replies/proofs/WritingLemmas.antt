-- What is written one token after another is the tokens of a value, which is read back.
use Rattle.std.proofs.Common.{◌≡◌, ◌∙◌, ◌≤◌, ◌<◌, ◌+◌, ◌^◌, ℕ, suc, max, Bool, true, false, ◌&&◌, List, [], ◌∷◌, ◌++◌, length, map, take, get_or, Option, Some, Ordering, Less, Equal, Greater, refl, sym, ap, ap₂, subst, arith, append_assoc, append-nil}
use Rattle.std.specs.Prelude.{decimal, option_map, option_and_then, Result, Ok, OnOk}
use Rattle.std.specs.Cmp.{first_so, second_so}
use Rattle.std.specs.Cmp.Derive.{both_true}
use Rattle.std.specs.Cmp.Lexicographic.{slice_cmp}
use Rattle.std.specs.Ordering.{match_ordering, nat_cmp}
use Rattle.std.proofs.lemmas.List.{map-append, take_more}
use Rattle.std.proofs.lemmas.Result.{on_ok_weaker}
use Rattle.json.specs.Token.{Token, begin_array, begin_object, end_array, end_object, key}
use Rattle.json.specs.Lex.{tokens}
use Rattle.json.specs.Json as json
use Rattle.json.specs.Tree as tree
use Rattle.json.specs.Written.{Written, Writes}
use Rattle.json.proofs.Printed.Trees.{value-json_tokens}
use Rattle.serde_json.specs.Data.{Data, null, boolean, number, string, array, object, Items, no_items, item, Members, no_members, member, put, depth, items_depth, members_depth}
use Rattle.serde_json.specs.Read.{read, max_depth, of_json, of_items, of_members}
use Rattle.serde_json.specs.View.{items_of}
use Rattle.serde_json.specs.Written.{outline, items_outline, members_outline}
use Rattle.serde_json.proofs.Numbers.{number_of-decimal}
use Rattle.json_replies.specs.Forms.{members, numbered_values, only_if, decimal_data, object_of}
use Rattle.json_replies.specs.Writing.{Appends, ReadBack, ReadsBack, ValuesRead, WritesMembers, WritesValue, WritesValues, data_tokens, named_tokens, values_tokens}

-- ---- one after another

appended : (ts us : List Token) (a b c : Written) → Appends ts a b → Appends us b c → Appends (ts ++ us) a c
appended ts us a b c h k = record {
  tokens = k.tokens ∙ ap (λ s. s ++ us) h.tokens ∙ append_assoc a.tokens ts us;
  before = k.before ∙ h.before;
}

both_read : (ms ns : List (List ℕ × Data)) → ReadBack ms → ReadBack ns → ReadBack (ms ++ ns)
both_read [] ns h k = k
both_read (m ∷ ms) ns h k = (h.0, both_read ms ns h.1 k)

named_after : (ms ns : List (List ℕ × Data)) → named_tokens ms ++ named_tokens ns ≡ named_tokens (ms ++ ns)
named_after [] ns = refl
named_after (m ∷ ms) ns =
    ap (λ s. key m.0 ∷ s) (append_assoc (data_tokens m.1) (named_tokens ms) (named_tokens ns) ∙ ap (λ s. data_tokens m.1 ++ s) (named_after ms ns))

-- a token that a call wrote
pub token_written : {E : Type 0} {u : Unit {0}} {t : Token} {a b : Written} → Writes {E = E} (Ok u) a b t → Appends (t ∷ []) a b
token_written w = record { tokens = w.ok; before = w.room.0 }

-- what one token is, and reads as
one_token : {E : Type 0} {r : Result (Unit {0}) E} {d : Data} {t : Token} {a b : Written} → Writes r a b t → data_tokens d ≡ t ∷ [] → ReadsBack d → OnOk r (WritesValue d a b)
one_token {E} {r} {d} {t} {a} {b} w same reads =
    on_ok_weaker r (λ e. record { appends = record { tokens = e ∙ ap (λ ts. a.tokens ++ ts) (sym same); before = w.room.0 }; reads = reads }) w.ok

pub text_written : {E : Type 0} {r : Result (Unit {0}) E} {s : List ℕ} {a b : Written} → Writes r a b (Token.string s) → OnOk r (WritesValue (string s) a b)
text_written w = one_token w refl refl

pub number_written : {E : Type 0} {r : Result (Unit {0}) E} {n : ℕ} {a b : Written} → n < 2 ^ 64 → Writes r a b (Token.number (decimal n)) → OnOk r (WritesValue (decimal_data n) a b)
number_written {E} {r} {n} fits w = one_token w refl (ap (option_map number) (number_of-decimal n fits))

pub truth_written : {E : Type 0} {r : Result (Unit {0}) E} {holds : Bool} {a b : Written} → Writes r a b (Token.boolean holds) → OnOk r (WritesValue (boolean holds) a b)
truth_written w = one_token w refl refl

-- a value, which is the value that was to be written
pub value_as : {A : Type 0} (f : A → Data) {x y : A} {a b : Written} → x ≡ y → WritesValue (f x) a b → WritesValue (f y) a b
value_as f {x} {y} {a} {b} is w = subst (λ z. WritesValue (f z) a b) is w

-- a member of one value, which is the value that was to be written
pub seen_as : {A : Type 0} (f : A → Data) {x y : A} {k : List ℕ} {a b : Written} → x ≡ y → WritesMembers ((k, f x) ∷ []) a b → WritesMembers ((k, f y) ∷ []) a b
seen_as f {x} {y} {k} {a} {b} is w = subst (λ z. WritesMembers ((k, f z) ∷ []) a b) is w

-- members, which are the members that were to be written
pub members_as : {A : Type 0} (f : A → List (List ℕ × Data)) {x y : A} {a b : Written} → x ≡ y → WritesMembers (f x) a b → WritesMembers (f y) a b
members_as f {x} {y} {a} {b} is w = subst (λ z. WritesMembers (f z) a b) is w

-- members, and further members after them
pub then : {ms ns : List (List ℕ × Data)} {a b c : Written} → WritesMembers ms a b → WritesMembers ns b c → WritesMembers (ms ++ ns) a c
then {ms} {ns} {a} {b} {c} h k = record {
  appends = subst (λ ts. Appends ts a c) (named_after ms ns) (appended (named_tokens ms) (named_tokens ns) a b c h.appends k.appends);
  reads = both_read ms ns h.reads k.reads;
}

-- a member that is there where a test holds, and further members after it
pub then_if : (holds : Bool) (m : List ℕ × Data) {ns : List (List ℕ × Data)} {a b c : Written}
    → WritesMembers (only_if holds m []) a b → WritesMembers ns b c → WritesMembers (only_if holds m ns) a c
then_if true m h k = then h k
then_if false m h k = then h k

-- a name, and its value after it
pub member_written : {k : List ℕ} {a b : Written} → Appends (key k ∷ []) a b → {d : Data} {c : Written} → WritesValue d b c → WritesMembers ((k, d) ∷ []) a c
member_written {k} {a} {b} h {d} {c} w = record {
  appends = subst (λ ts. Appends (key k ∷ ts) a c) (sym (append-nil (data_tokens d))) (appended (key k ∷ []) (data_tokens d) a b c h w.appends);
  reads = (w.reads, tt);
}

-- ---- objects

abbrev is_greater : Ordering → Bool
is_greater o = match_ordering o false false true

abbrev is_after : List ℕ → List (List ℕ × Data) → Bool
is_after name [] = true
is_after name (m ∷ ms) = is_greater (slice_cmp nat_cmp name m.0) && is_after name ms

-- each name comes after those before it
abbrev pub rises : List (List ℕ × Data) → List (List ℕ × Data) → Bool
rises done [] = true
rises done (m ∷ ms) = is_after m.0 done && rises (done ++ m ∷ []) ms

greater : {A : Type 0} (o : Ordering) (x y z : A) → is_greater o ≡ true → match_ordering o x y z ≡ z
greater Less x y z h = absurd (cc)
greater Equal x y z h = absurd (cc)
greater Greater x y z h = refl

put_last : (m : List ℕ × Data) (done : List (List ℕ × Data)) → is_after m.0 done ≡ true → put m.0 m.1 (members done) ≡ members (done ++ m ∷ [])
put_last m [] h = refl
put_last m (n ∷ ns) h =
    let o = slice_cmp nat_cmp m.0 n.0 in
    greater o _ _ _ (first_so (is_greater o) _ h) ∙ ap (member n.0 n.1) (put_last m ns (second_so (is_greater o) _ h))

members_read : (done ms : List (List ℕ × Data)) → ReadBack ms → rises done ms ≡ true
    → of_members (members_outline (members ms)) (members done) ≡ Some (members (done ++ ms))
members_read done [] reads rise = ap (λ ms. Some (members ms)) (sym (append-nil done))
members_read done (m ∷ ms) reads rise =
    let rest = members_outline (members ms) in
    ap (option_and_then (λ d. of_members rest (put m.0 d (members done)))) reads.0
    ∙ ap (of_members rest) (put_last m done (first_so (is_after m.0 done) _ rise))
    ∙ members_read (done ++ m ∷ []) ms reads.1 (second_so (is_after m.0 done) _ rise)
    ∙ ap (λ all. Some (members all)) (append_assoc done (m ∷ []) ms)

members_closed : (ms : List (List ℕ × Data)) → named_tokens ms ++ end_object ∷ [] ≡ tree.members_tokens (members_outline (members ms))
members_closed [] = refl
members_closed (m ∷ ms) =
    ap (λ s. key m.0 ∷ s) (append_assoc (data_tokens m.1) (named_tokens ms) (end_object ∷ []) ∙ ap (λ s. data_tokens m.1 ++ s) (members_closed ms))

after_fewer : (name : List ℕ) (before : List (List ℕ × Data)) (m : List ℕ × Data) (after : List (List ℕ × Data))
    → is_after name (before ++ m ∷ after) ≡ true → is_after name (before ++ after) ≡ true
after_fewer name [] m after h = second_so (is_greater (slice_cmp nat_cmp name m.0)) _ h
after_fewer name (n ∷ ns) m after h =
    let first = is_greater (slice_cmp nat_cmp name n.0) in
    both_true (first_so first _ h) (after_fewer name ns m after (second_so first _ h))

rises_fewer : (before : List (List ℕ × Data)) (m : List ℕ × Data) (after ms : List (List ℕ × Data))
    → rises (before ++ m ∷ after) ms ≡ true → rises (before ++ after) ms ≡ true
rises_fewer before m after [] h = refl
rises_fewer before m after (n ∷ ns) h =
    let first = is_after n.0 (before ++ m ∷ after) in
    let more : rises (before ++ m ∷ (after ++ n ∷ [])) ns ≡ true =
    ap (λ done. rises done ns) (sym (append_assoc before (m ∷ after) (n ∷ []))) ∙ second_so first _ h in
    both_true (after_fewer n.0 before m after (first_so first _ h))
    (ap (λ done. rises done ns) (append_assoc before after (n ∷ [])) ∙ rises_fewer before m (after ++ n ∷ []) ns more)

-- names that rise do so without one of them
pub rises_if : (holds : Bool) (m : List ℕ × Data) (done ms : List (List ℕ × Data)) → rises done (m ∷ ms) ≡ true → rises done (only_if holds m ms) ≡ true
rises_if true m done ms h = h
rises_if false m done ms h =
    let fewer : rises (done ++ []) ms ≡ true = rises_fewer done m [] ms (second_so (is_after m.0 done) _ h) in
    ap (λ all. rises all ms) (sym (append-nil done)) ∙ fewer

-- the members of an object between its brackets, where their names rise
pub object_written : {E : Type 0} {r : Result (Unit {0}) E} {ms : List (List ℕ × Data)} {a b c d : Written} → Appends (begin_object ∷ []) a b → WritesMembers ms b c
    → Writes r c d end_object → rises [] ms ≡ true → OnOk r (WritesValue (object_of ms) a d)
object_written {E} {r} {ms} {a} {b} {c} {d} begun w close rise =
    on_ok_weaker r (λ (e : d.tokens ≡ c.tokens ++ end_object ∷ []). record {
      appends =
          subst (λ ts. Appends (begin_object ∷ ts) a d) (members_closed ms)
          (appended (begin_object ∷ []) (named_tokens ms ++ end_object ∷ []) a b d begun
          (appended (named_tokens ms) (end_object ∷ []) b c d w.appends (record { tokens = e; before = close.room.0 })));
      reads = ap (option_map object) (members_read [] ms w.reads rise);
    }) close.ok

-- ---- lists

values_more : (ds : List Data) (d : Data) → values_tokens ds ++ data_tokens d ≡ values_tokens (ds ++ d ∷ [])
values_more [] d = sym (append-nil (data_tokens d))
values_more (e ∷ ds) d = append_assoc (data_tokens e) (values_tokens ds) (data_tokens d) ∙ ap (λ s. data_tokens e ++ s) (values_more ds d)

values_closed : (ds : List Data) → values_tokens ds ++ end_array ∷ [] ≡ tree.items_tokens (items_outline (items_of ds))
values_closed [] = refl
values_closed (d ∷ ds) = append_assoc (data_tokens d) (values_tokens ds) (end_array ∷ []) ∙ ap (λ s. data_tokens d ++ s) (values_closed ds)

more_read : (ds : List Data) (d : Data) → ValuesRead ds → ReadsBack d → ValuesRead (ds ++ d ∷ [])
more_read [] d h k = (k, tt)
more_read (e ∷ ds) d h k = (h.0, more_read ds d h.1 k)

values_after : (ds es : List Data) → values_tokens ds ++ values_tokens es ≡ values_tokens (ds ++ es)
values_after [] es = refl
values_after (d ∷ ds) es = append_assoc (data_tokens d) (values_tokens ds) (values_tokens es) ∙ ap (λ s. data_tokens d ++ s) (values_after ds es)

all_read : (ds es : List Data) → ValuesRead ds → ValuesRead es → ValuesRead (ds ++ es)
all_read [] es h k = k
all_read (d ∷ ds) es h k = (h.0, all_read ds es h.1 k)

items_read : (ds : List Data) → ValuesRead ds → of_items (items_outline (items_of ds)) ≡ Some (items_of ds)
items_read [] reads = refl
items_read (d ∷ ds) reads =
    ap (option_and_then (λ e. option_map (item e) (of_items (items_outline (items_of ds))))) reads.0 ∙ ap (option_map (item d)) (items_read ds reads.1)

-- the beginning of a list, and these values of it
pub record WritesFirst (ds : List Data) (a b : Written) : Type 0 where
  pub appends : Appends (begin_array ∷ values_tokens ds) a b
  pub reads : ValuesRead ds

pub none_yet : {E : Type 0} {u : Unit {0}} {a b : Written} → Writes {E = E} (Ok u) a b begin_array → WritesFirst [] a b
none_yet w = record { appends = token_written w; reads = tt }

pub one_more : {ds : List Data} {d : Data} {a b c : Written} → WritesFirst ds a b → WritesValue d b c → WritesFirst (ds ++ d ∷ []) a c
one_more {ds} {d} {a} {b} {c} h w = record {
  appends = subst (λ ts. Appends (begin_array ∷ ts) a c) (values_more ds d) (appended (begin_array ∷ values_tokens ds) (data_tokens d) a b c h.appends w.appends);
  reads = more_read ds d h.reads w.reads;
}

-- no value
pub none_each : {a : Written} → WritesValues [] a a
none_each {a} = record { appends = record { tokens = sym (append-nil a.tokens); before = refl }; reads = tt }

-- values, and one more after them
pub then_one : {ds : List Data} {d : Data} {a b c : Written} → WritesValues ds a b → WritesValue d b c → WritesValues (ds ++ d ∷ []) a c
then_one {ds} {d} {a} {b} {c} h w = record {
  appends = subst (λ ts. Appends ts a c) (values_more ds d) (appended (values_tokens ds) (data_tokens d) a b c h.appends w.appends);
  reads = more_read ds d h.reads w.reads;
}

-- values, which are the values that were to be written
pub values_as : {A : Type 0} (f : A → List Data) {x y : A} {a b : Written} → x ≡ y → WritesValues (f x) a b → WritesValues (f y) a b
values_as f {x} {y} {a} {b} is w = subst (λ z. WritesValues (f z) a b) is w

-- the values of a list, and further values after them
pub then_each : {ds es : List Data} {a b c : Written} → WritesFirst ds a b → WritesValues es b c → WritesFirst (ds ++ es) a c
then_each {ds} {es} {a} {b} {c} h w = record {
  appends = subst (λ ts. Appends (begin_array ∷ ts) a c) (values_after ds es) (appended (begin_array ∷ values_tokens ds) (values_tokens es) a b c h.appends w.appends);
  reads = all_read ds es h.reads w.reads;
}

-- a list as far as a place, and the value at the place
pub next_written : {A : Type 0} (f : A → Data) (items : List A) (i : ℕ) (x : A) {a b c : Written} → i < length items → x ≡ get_or items i x
    → WritesFirst (map f (take i items)) a b → WritesValue (f x) b c → WritesFirst (map f (take (i + 1) items)) a c
next_written f items i x {a} {b} {c} below is h w =
    let next : take (i + 1) items ≡ take i items ++ x ∷ [] = take_more items i x below ∙ ap (λ y. take i items ++ y ∷ []) (sym is) in
    let all : map f (take (i + 1) items) ≡ map f (take i items) ++ f x ∷ [] = ap (map f) next ∙ map-append f (take i items) (x ∷ []) in
    subst (λ ds. WritesFirst ds a c) (sym all) (one_more h w)

-- one value more has the next number
pub numbered_more : {A : Type 0} (f : ℕ → A → Data) (n : ℕ) (xs : List A) (x : A) → numbered_values f n (xs ++ x ∷ []) ≡ numbered_values f n xs ++ f (n + length xs) x ∷ []
numbered_more f n [] x =
    let same : n ≡ n + 0 = omega arith in
    ap (λ k. f k x ∷ []) same
numbered_more f n (y ∷ ys) x =
    let same : suc n + length ys ≡ n + suc (length ys) = omega arith in
    ap (λ zs. f n y ∷ zs) (numbered_more f (suc n) ys x ∙ ap (λ k. numbered_values f (suc n) ys ++ f k x ∷ []) same)

pub list_written : {E : Type 0} {r : Result (Unit {0}) E} {ds : List Data} {a b c : Written} → WritesFirst ds a b → Writes r b c end_array → OnOk r (WritesValue (array (items_of ds)) a c)
list_written {E} {r} {ds} {a} {b} {c} h close =
    on_ok_weaker r (λ (e : c.tokens ≡ b.tokens ++ end_array ∷ []). record {
      appends =
          subst (λ ts. Appends (begin_array ∷ ts) a c) (values_closed ds)
          (appended (begin_array ∷ values_tokens ds) (end_array ∷ []) a b c h.appends (record { tokens = e; before = close.room.0 }));
      reads = ap (option_map array) (items_read ds h.reads);
    }) close.ok

-- ---- the whole text

abbrev mutual
  depth_preserved : (d : Data) → tree.depth (outline d) ≡ depth d
  depth_preserved null = refl
  depth_preserved (boolean b) = refl
  depth_preserved (number n) = refl
  depth_preserved (string s) = refl
  depth_preserved (array ds) = ap suc (items_depth_preserved ds)
  depth_preserved (object ms) = ap suc (members_depth_preserved ms)

  items_depth_preserved : (ds : Items) → tree.items_depth (items_outline ds) ≡ items_depth ds
  items_depth_preserved no_items = refl
  items_depth_preserved (item d ds) = ap₂ max (depth_preserved d) (items_depth_preserved ds)

  members_depth_preserved : (ms : Members) → tree.members_depth (members_outline ms) ≡ members_depth ms
  members_depth_preserved no_members = refl
  members_depth_preserved (member k d ms) = ap₂ max (depth_preserved d) (members_depth_preserved ms)

pub text_read : (d : Data) (text : List ℕ) → ReadsBack d → depth d ≤ max_depth → tokens text ≡ data_tokens d → read text ≡ Some d
text_read d text reads shallow same =
    ap (λ (o : Option (json.Json × List Token)). option_and_then of_json (option_and_then (λ p. json.if_last p.0 p.1) o)) (ap (json.value max_depth) (same ∙ sym (append-nil (data_tokens d))) ∙ value-json_tokens (outline d) max_depth [] (omega (arith, depth_preserved d))) ∙ reads
