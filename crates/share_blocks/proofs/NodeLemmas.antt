-- The tags that nodes stand for.
use Rattle.std.proofs.Common.{◌≡◌, ℕ, suc, ◌+◌, ◌<◌, ◌≤◌, Bool, true, false, cond, List, [], ◌∷◌, ◌++◌, length, map, get_or, take, drop, refl, ap, sym, subst, ◌∙◌, arith, ◌⊎◌, inl, inr, Less}
use Rattle.std.specs.Prelude.{◌==◌, fold, find, Option, Some, None, slice_get, All, IfSome}
use Rattle.std.specs.List.{AllByRecursion}
use Rattle.std.specs.BTreeMap.{is_at}
use Rattle.std.specs.Map.{keys_of, lookup, set_value, values_of}
use Rattle.std.specs.Ordering.{is_eq, is_lt, nat_cmp}
use Rattle.std.specs.List.Sorted.{IsStrictlySortedBy}
use Rattle.std.proofs.Math.Seq.{drop-cons}
use Rattle.std.proofs.lemmas.Bool.{ltb-true, lt-ltb}
use Rattle.std.proofs.lemmas.Bool.Decides.{nat_tests}
use Rattle.std.proofs.lemmas.List.{length-append, get_or_append_left, get_or_push, length-take-le, take-append-drop}
use Rattle.std.proofs.lemmas.List.Sums.{fold-append}
use Rattle.std.proofs.lemmas.Map.{NonePasses, keys-set_value, none_passes_from_lookup}
use Rattle.std.proofs.lemmas.Map.Views.{All-values-set_value, IfSome-lookup_from_All}
use Rattle.std.proofs.lemmas.List.Elements.{All-weaker, recursion_from_All}
use Rattle.std.proofs.lemmas.Map.Keys.{sorted_head, sorted_tail}
use Rattle.std.proofs.lemmas.Option.{slice_get_cases, get_or_from_slice_get}
use Rattle.seq.proofs.Numbers.{is_eq-nat_cmp, is_lt-nat_cmp}
use Rattle.share_blocks.specs.declared.linked.Node.{Node}
use Rattle.share_blocks.specs.Cuts.{rise_from}
use Rattle.share_blocks.specs.LinkedPieces.{AreLinked, Newest, Mark, LinksGoBack, is_among_first, marks_of, tagged_at, tags_by, tags_of_nodes, with_node}

-- ---- a table of tags with more nodes

pub length-nodes : (each : List (List ℕ)) (nodes : List Node) → length (fold with_node each nodes) ≡ length each + length nodes
length-nodes each [] = omega arith
length-nodes each (n ∷ ns) = omega (arith, length-nodes (with_node each n) ns, length-append each ((n.tag ∷ tags_by each n.older) ∷ []))

length-tags : (nodes : List Node) → length (tags_of_nodes nodes) ≡ length nodes
length-tags nodes = omega (arith, length-nodes [] nodes)

-- the earlier nodes keep their tags
get_or-nodes : (each : List (List ℕ)) (nodes : List Node) (i : ℕ) → i < length each → get_or (fold with_node each nodes) i [] ≡ get_or each i []
get_or-nodes each [] i low = refl
get_or-nodes each (n ∷ ns) i low =
    get_or-nodes (with_node each n) ns i (omega (arith, low, length-append each ((n.tag ∷ tags_by each n.older) ∷ [])))
    ∙ get_or_append_left each ((n.tag ∷ tags_by each n.older) ∷ []) [] i low

tags_by-nodes : (each : List (List ℕ)) (nodes : List Node) (node : Option ℕ) → is_among_first (length each) node ≡ true → tags_by (fold with_node each nodes) node ≡ tags_by each node
tags_by-nodes each nodes None low = refl
tags_by-nodes each nodes (Some i) low = get_or-nodes each nodes i (ltb-true i (length each) low)

-- ---- one node more

is_among-same : (m n : ℕ) (node : Option ℕ) → m ≡ n → is_among_first m node ≡ true → is_among_first n node ≡ true
is_among-same m n node same h = subst (λ k. is_among_first k node ≡ true) same h

pub tags_by-older : (nodes : List Node) (new : Node) (node : Option ℕ) → is_among_first (length nodes) node ≡ true → tags_by (tags_of_nodes (nodes ++ new ∷ [])) node ≡ tags_by (tags_of_nodes nodes) node
tags_by-older nodes new node low =
    ap (λ each. tags_by each node) (fold-append with_node [] nodes (new ∷ []))
    ∙ tags_by-nodes (tags_of_nodes nodes) (new ∷ []) node (is_among-same (length nodes) (length (tags_of_nodes nodes)) node (sym (length-tags nodes)) low)

pub tags_by-newest : (nodes : List Node) (new : Node) → tags_by (tags_of_nodes (nodes ++ new ∷ [])) (Some (length nodes)) ≡ new.tag ∷ tags_by (tags_of_nodes nodes) new.older
tags_by-newest nodes new =
    ap (λ each. tags_by each (Some (length nodes))) (fold-append with_node [] nodes (new ∷ []))
    ∙ get_or_push (tags_of_nodes nodes) (new.tag ∷ tags_by (tags_of_nodes nodes) new.older) [] (length nodes) (length-tags nodes)

pub is_among-more : (count : ℕ) (node : Option ℕ) → is_among_first count node ≡ true → is_among_first (count + 1) node ≡ true
is_among-more count None low = refl
is_among-more count (Some i) low = lt-ltb i (count + 1) (omega (arith, ltb-true i count low))

some_same : {A : Type 0} (x y : A) → Some x ≡ Some y → x ≡ y
some_same x y h = cc

abbrev Read : List Node → ℕ → Type 0
Read nodes index = ((x : Node) × (index < length nodes) × (slice_get nodes index ≡ Some x) × (get_or nodes index x ≡ x)) ⊎ ((length nodes ≤ index) × (slice_get nodes index ≡ None))

within : (nodes : List Node) (index : ℕ) (node : Node) → slice_get nodes index ≡ Some node → Read nodes index → index < length nodes
within nodes index node is (inl (x, low, some, read)) = low
within nodes index node is (inr (past, none)) = absurd (cc)

goes_back : (nodes : List Node) (new : Node) → LinksGoBack nodes → is_among_first (length nodes) new.older ≡ true → (index : ℕ) (node : Node)
    → slice_get (nodes ++ new ∷ []) index ≡ Some node → Read nodes index → is_among_first index node.older ≡ true
goes_back nodes new back low index node is (inl (x, below, some, read)) =
    let here : node ≡ x = sym (get_or_from_slice_get (nodes ++ new ∷ []) index node x is) ∙ get_or_append_left nodes (new ∷ []) x index below ∙ read in
    back index node (some ∙ ap (λ n. Some n) (sym here))
goes_back nodes new back low index node is (inr (past, none)) =
    let last : index < length (nodes ++ new ∷ []) = within (nodes ++ new ∷ []) index node is (slice_get_cases (nodes ++ new ∷ []) index).1 in
    let same : length nodes ≡ index = omega (arith, last, past, length-append nodes (new ∷ [])) in
    let here : node ≡ new = sym (get_or_from_slice_get (nodes ++ new ∷ []) index node node is) ∙ get_or_push nodes new node index same in
    ap (λ (n : Node). is_among_first index n.older) here ∙ is_among-same (length nodes) index new.older same low

-- links still go back
pub go_back-more : (nodes : List Node) (new : Node) → LinksGoBack nodes → is_among_first (length nodes) new.older ≡ true → LinksGoBack (nodes ++ new ∷ [])
go_back-more nodes new back low = λ index node is. goes_back nodes new back low index node is (slice_get_cases nodes index).1

-- ---- the tags of a node, from it down

pub tags_by-down : (nodes : List Node) (i : ℕ) (node : Node) → LinksGoBack nodes → slice_get nodes i ≡ Some node → tags_by (tags_of_nodes nodes) (Some i) ≡ node.tag ∷ tags_by (tags_of_nodes nodes) node.older
tags_by-down nodes i node back is =
    let low = within nodes i node is (slice_get_cases nodes i).1 in
    let early = take i nodes in
    let rest = drop (suc i) nodes in
    let many : length early ≡ i = length-take-le i nodes (omega (arith, low)) in
    let whole : nodes ≡ early ++ node ∷ rest =
    sym (take-append-drop i nodes) ∙ ap (λ l. early ++ l) (drop-cons nodes i node low ∙ ap (λ n. n ∷ rest) (get_or_from_slice_get nodes i node node is)) in
    let each = tags_of_nodes early in
    let all : tags_of_nodes nodes ≡ fold with_node each (node ∷ rest) = ap tags_of_nodes whole ∙ fold-append with_node [] early (node ∷ rest) in
    let length_each : length each ≡ i = length-tags early ∙ many in
    ap (λ t. tags_by t (Some i)) all
    ∙ get_or-nodes (with_node each node) rest i (omega (arith, length_each, length-append each ((node.tag ∷ tags_by each node.older) ∷ [])))
    ∙ get_or_push each (node.tag ∷ tags_by each node.older) [] i length_each
    ∙ ap (λ l. node.tag ∷ l)
    (sym (tags_by-nodes each (node ∷ rest) node.older (is_among-same i (length each) node.older (sym length_each) (back i node is)))
    ∙ ap (λ t. tags_by t node.older) (sym all))

-- the first of them that passes is its own tag, or that of those below
pub find-down : (test : ℕ → Bool) (nodes : List Node) (i : ℕ) (node : Node) → LinksGoBack nodes → slice_get nodes i ≡ Some node
    → find test (tags_by (tags_of_nodes nodes) (Some i)) ≡ cond (test node.tag) (Some node.tag) (find test (tags_by (tags_of_nodes nodes) node.older))
find-down test nodes i node back is = ap (find test) (tags_by-down nodes i node back is)

-- ---- the marks, with one node more

-- a piece as a mark, by what its node stands for
abbrev pub mark_by : (Option ℕ → List ℕ) → ℕ × Option ℕ → Mark
mark_by tags piece = (piece.0, tags piece.1)

flip : (a b : ℕ) → (a == b) ≡ (b == a)
flip a b = grind (arith, nat_tests)

pub untagged : (f g : Option ℕ → List ℕ) (place tag : ℕ) (es : Newest) → AllByRecursion (λ e. g e.1 ≡ f e.1) es → NonePasses (is_at (nat_cmp place)) es
    → map (mark_by g) es ≡ map (tagged_at place tag) (map (mark_by f) es)
untagged f g place tag [] same none = refl
untagged f g place tag (e ∷ es) same none =
    let other : (e.0 == place) ≡ false = flip e.0 place ∙ sym (is_eq-nat_cmp place e.0) ∙ none.0 in
    ap (λ l. (e.0, l) ∷ map (mark_by g) es) (same.0 ∙ ap (λ b. cond b (tag ∷ f e.1) (f e.1)) (sym other))
    ∙ ap (λ l. tagged_at place tag (mark_by f e) ∷ l) (untagged f g place tag es same.1 none.1)

later_apart : (place first : ℕ) (es : Newest) → is_eq (nat_cmp place first) ≡ true → AllByRecursion (λ y. nat_cmp first y ≡ Less) (keys_of es) → NonePasses (is_at (nat_cmp place)) es
later_apart place first [] here above = tt
later_apart place first (e ∷ es) here above = (apart place first e.0 here above.0, later_apart place first es here above.1)
  where
    apart : (a b c : ℕ) → is_eq (nat_cmp a b) ≡ true → nat_cmp b c ≡ Less → is_eq (nat_cmp a c) ≡ false
    apart a b c same less = grind (arith, nat_tests, is_eq-nat_cmp a b, is_eq-nat_cmp a c, is_lt-nat_cmp b c, ap is_lt less)

none_later : (place : ℕ) (e : ℕ × Option ℕ) (es : Newest) → is_eq (nat_cmp place e.0) ≡ true → IsStrictlySortedBy nat_cmp (keys_of (e ∷ es)) → NonePasses (is_at (nat_cmp place)) es
none_later place e es here rising = later_apart place e.0 es here (sorted_head nat_cmp e.0 (keys_of es) rising)

-- the piece at a place has the new node, and every other keeps its own
pub tagged_at-newest : (f g : Option ℕ → List ℕ) (place tag : ℕ) (new older : Option ℕ) (es : Newest) → g new ≡ tag ∷ f older → AllByRecursion (λ e. g e.1 ≡ f e.1) es → IsStrictlySortedBy nat_cmp (keys_of es)
    → lookup (is_at (nat_cmp place)) es ≡ Some older → map (mark_by g) (set_value (is_at (nat_cmp place)) es new) ≡ map (tagged_at place tag) (map (mark_by f) es)
tagged_at-newest f g place tag new older [] is same rising found = absurd (cc)
tagged_at-newest f g place tag new older (e ∷ es) is same rising found =
    (elim (is_eq (nat_cmp place e.0)) as (λ b. is_eq (nat_cmp place e.0) ≡ b → cond b (Some e.1) (lookup (is_at (nat_cmp place)) es) ≡ Some older
    → map (mark_by g) (cond b ((e.0, new) ∷ es) (e ∷ set_value (is_at (nat_cmp place)) es new)) ≡ map (tagged_at place tag) (map (mark_by f) (e ∷ es))) [
      | true ↦ λ here some.
          let own : g new ≡ tag ∷ f e.1 = is ∙ ap (λ o. tag ∷ f o) (sym (some_same e.1 older some)) in
          let at : (e.0 == place) ≡ true = flip e.0 place ∙ sym (is_eq-nat_cmp place e.0) ∙ here in
          ap (λ l. (e.0, l) ∷ map (mark_by g) es) (own ∙ ap (λ b. cond b (tag ∷ f e.1) (f e.1)) (sym at))
          ∙ ap (λ l. tagged_at place tag (mark_by f e) ∷ l) (untagged f g place tag es same.1 (none_later place e es here rising))
      | false ↦ λ there some.
          let other : (e.0 == place) ≡ false = flip e.0 place ∙ sym (is_eq-nat_cmp place e.0) ∙ there in
          ap (λ l. (e.0, l) ∷ map (mark_by g) (set_value (is_at (nat_cmp place)) es new)) (same.0 ∙ ap (λ b. cond b (tag ∷ f e.1) (f e.1)) (sym other))
          ∙ ap (λ l. tagged_at place tag (mark_by f e) ∷ l) (tagged_at-newest f g place tag new older es is same.1 (sorted_tail nat_cmp e.0 (keys_of es) rising) some)
    ]) refl found

-- ---- the whole of one tag more

all-older : (nodes : List Node) (new : Node) (es : Newest) → AllByRecursion (λ node. is_among_first (length nodes) node ≡ true) (values_of es)
    → AllByRecursion (λ e. tags_by (tags_of_nodes (nodes ++ new ∷ [])) e.1 ≡ tags_by (tags_of_nodes nodes) e.1) es
all-older nodes new [] all = tt
all-older nodes new (e ∷ es) all = (tags_by-older nodes new e.1 all.0, all-older nodes new es all.1)

pub marks-newest : (es : Newest) (nodes : List Node) (new : Node) (place : ℕ) → AreLinked es nodes → IsStrictlySortedBy nat_cmp (keys_of es) → lookup (is_at (nat_cmp place)) es ≡ Some new.older
    → marks_of (set_value (is_at (nat_cmp place)) es (Some (length nodes))) (nodes ++ new ∷ []) ≡ map (tagged_at place new.tag) (marks_of es nodes)
marks-newest es nodes new place linked rising found =
    tagged_at-newest (tags_by (tags_of_nodes nodes)) (tags_by (tags_of_nodes (nodes ++ new ∷ []))) place new.tag (Some (length nodes)) new.older es
    (tags_by-newest nodes new) (all-older nodes new es (recursion_from_All _ (values_of es) linked.1)) rising found

all-self : (f : Option ℕ → List ℕ) (es : Newest) → AllByRecursion (λ e. f e.1 ≡ f e.1) es
all-self f [] = tt
all-self f (e ∷ es) = (refl, all-self f es)

pub marks-none : (es : Newest) (nodes : List Node) (place tag : ℕ) → lookup (is_at (nat_cmp place)) es ≡ None → marks_of es nodes ≡ map (tagged_at place tag) (marks_of es nodes)
marks-none es nodes place tag none =
    let tags = tags_by (tags_of_nodes nodes) in
    untagged tags tags place tag es (all-self tags es) (none_passes_from_lookup (is_at (nat_cmp place)) es none)

values-more : (count : ℕ) (es : Newest) → All (λ node. is_among_first count node ≡ true) (values_of es) → All (λ node. is_among_first (count + 1) node ≡ true) (values_of es)
values-more count es all = All-weaker _ _ (λ node low. is_among-more count node low) (values_of es) all

-- what a node links to is one of the earlier ones
pub linked-found : (es : Newest) (nodes : List Node) (place : ℕ) (older : Option ℕ) → AreLinked es nodes → lookup (is_at (nat_cmp place)) es ≡ Some older → is_among_first (length nodes) older ≡ true
linked-found es nodes place older linked found = found_passes (IfSome-lookup_from_All (λ node. is_among_first (length nodes) node ≡ true) (is_at (nat_cmp place)) es linked.1) found
  where
    found_passes : {o : Option (Option ℕ)} → IfSome o (λ node. is_among_first (length nodes) node ≡ true) → o ≡ Some older → is_among_first (length nodes) older ≡ true
    found_passes h is = subst (λ o. IfSome o (λ node. is_among_first (length nodes) node ≡ true)) is h

pub linked-newest : (es : Newest) (nodes : List Node) (new : Node) (place : ℕ) → AreLinked es nodes → is_among_first (length nodes) new.older ≡ true → AreLinked (set_value (is_at (nat_cmp place)) es (Some (length nodes))) (nodes ++ new ∷ [])
linked-newest es nodes new place linked low =
    let more : length (nodes ++ new ∷ []) ≡ length nodes + 1 = length-append nodes (new ∷ []) in
    let values = All-values-set_value (is_at (nat_cmp place)) (λ node. is_among_first (length nodes + 1) node ≡ true) es (Some (length nodes)) (values-more (length nodes) es linked.1) (lt-ltb (length nodes) (length nodes + 1) (omega arith)) in (
      ap (rise_from 0) (keys-set_value (is_at (nat_cmp place)) es (Some (length nodes))) ∙ linked.0,
      subst (λ n. All (λ node. is_among_first n node ≡ true) (values_of (set_value (is_at (nat_cmp place)) es (Some (length nodes))))) (sym more) values,
      go_back-more nodes new linked.2 low,
    )
