-- What the actions of references leave: where each table whose references act is no table of the desk, a write changes
-- no table of the desk but its own.
use Rattle.std.proofs.Common.{◌≡◌, ◌≢◌, ℕ, zero, suc, ◌+◌, ℤ, ◌⊎◌, inl, inr, List, [], ◌∷◌, ◌++◌, length, ◌==◌, nat_lt, Bool, true, false, ◌&&◌, ◌||◌, Option, Some, None, Ok, Err, refl, sym, ap, subst, ◌∙◌, IsTrue, true≢false}
use Rattle.std.specs.List.{AllByRecursion, list_all, list_any, filter_map}
use Rattle.std.proofs.lemmas.Bool.{cases_Bool, and_parts}
use Rattle.sqlite.specs.Order.{Row}
use Rattle.sqlite.specs.Table.{Table}
use Rattle.sqlite.specs.Schema.{Schema}
use Rattle.sqlite.specs.Edit.{Edit, Applies, taken_by}
use Rattle.sqlite.specs.Tree.{Trees}
use Rattle.sqlite_rules.specs.Action.{Work, work_by, work_for, works, pairs, loses, deed_for, refuses, max_depth, action_edit, Goes, Acts, ActsOn, Leads, Writes as Leaves}
use Rattle.sqlite_rules.specs.declared.action.Deed.{Deed}
use Rattle.sqlite_rules.specs.declared.error.Refusal.TheVariants.{Violates, TooDeep}
use Rattle.sqlite_schema.specs.declared.schema.Constraint.TheVariants.{ForeignKey}
use Rattle.sqlite_schema.specs.declared.schema.Action.{Action}
use Rattle.sqlite_schema.specs.declared.schema.Action.TheVariants.{NoAction, Restrict, Cascade, SetNull, SetDefault}
use Rattle.sqlite_schema.specs.declared.schema.Reference.{Reference}
use Rattle.sqlite_schema.specs.declared.schema.Keys.TheVariants.{Enforced}
use Rattle.sqlite_schema.specs.Rules.{ParentKey, parent_key}
use Rattle.sqlite_trees.proofs.ListLemmas.{all-slice_get, all-append, all-flat_map}
use Rattle.sql_schema.specs.Statements.{Layout, has_table, is_other}
use Rattle.sql_lemmas.proofs.Frames.{AreApart, act_on_others, declared_so, is_none, is_still, listed_in}

-- ---- no reference acts

none_is : (a : Action) → is_none a ≡ true → a ≡ NoAction
none_is NoAction h = refl
none_is Restrict h = absurd (true≢false (sym h))
none_is Cascade h = absurd (true≢false (sym h))
none_is SetNull h = absurd (true≢false (sym h))
none_is SetDefault h = absurd (true≢false (sym h))

no_deed : (deletes : Bool) (ref : Reference) → is_still ref ≡ true → deed_for Enforced deletes ref ≡ None
no_deed true ref h = rw (none_is ref.on_delete (and_parts (is_none ref.on_delete) (is_none ref.on_update) h).0) refl
no_deed false ref h = rw (none_is ref.on_update (and_parts (is_none ref.on_delete) (is_none ref.on_update) h).1) refl

-- ---- each action is on a table that is no table of the desk

abbrev IsOnOther : Layout → Work → Type 0
IsOnOther layout w = is_other layout w.child ≡ true

same_some : {A : Type 0} {a b : A} → Some a ≡ Some b → a ≡ b
same_some e = cc

module _ (layout : Layout) (depth tree : ℕ) (moves : List (Row × Row)) (child : Table) (ref : Reference) where
  work_of_child : (deed : Option Deed) (key : Option ParentKey) (w : Work) → work_by depth tree moves child ref deed key ≡ Some w → w.child ≡ child
  work_of_child None key w e = cc
  work_of_child (Some deed) None w e = cc
  work_of_child (Some deed) (Some key) w e = elim (cases_Bool ((key.0 == tree) && list_any (loses key.2 key.1) moves)) [
    | inl acts ↦ ap (λ (it : Work). it.child) (sym (same_some (rw acts at e)))
    | inr still ↦ let none : None ≡ Some w = rw still at e in cc
  ]

module _ (layout : Layout) (schema : Schema) (depth tree : ℕ) (olds news : List Row) where
  no_work : (child : Table) (refs : List Reference) → list_all is_still refs ≡ true → filter_map (work_for schema Enforced depth tree olds news child) refs ≡ []
  no_work child [] h = refl
  no_work child (ref ∷ refs) h = let parts = and_parts (is_still ref) (list_all is_still refs) h in rw (no_deed (length news == 0) ref parts.0, no_work child refs parts.1) refl

  other_work : (child : Table) → is_other layout child ≡ true → (refs : List Reference) → AllByRecursion (IsOnOther layout) (filter_map (work_for schema Enforced depth tree olds news child) refs)
  other_work child other [] = tt
  other_work child other (ref ∷ refs) = added (work_for schema Enforced depth tree olds news child ref) refl (other_work child other refs)
    where
      added : (o : Option Work) → work_for schema Enforced depth tree olds news child ref ≡ o → AllByRecursion (IsOnOther layout) (filter_map (work_for schema Enforced depth tree olds news child) refs)
          → AllByRecursion (IsOnOther layout) (filter_map (work_for schema Enforced depth tree olds news child) (ref ∷ refs))
      added None e rest = rw e rest
      added (Some w) e rest = rw e (
        subst (λ (t : Table). is_other layout t ≡ true) (sym (work_of_child layout depth tree (pairs olds news) child ref (deed_for Enforced (length news == 0) ref) (parent_key schema.tables ref) w e)) other,
        rest,
      )

  works_of : (tables : List Table) → act_on_others layout tables ≡ true
      → AllByRecursion (λ (child : Table). AllByRecursion (IsOnOther layout) (filter_map (work_for schema Enforced depth tree olds news child) child.references)) tables
  works_of [] h = tt
  works_of (t ∷ tables) h =
      let parts = and_parts (list_all is_still t.references || is_other layout t) (act_on_others layout tables) h in
      (of_table (cases_Bool (list_all is_still t.references)) parts.0, works_of tables parts.1)
    where
      of_table : (list_all is_still t.references ≡ true) ⊎ (list_all is_still t.references ≡ false) → (list_all is_still t.references || is_other layout t) ≡ true
          → AllByRecursion (IsOnOther layout) (filter_map (work_for schema Enforced depth tree olds news t) t.references)
      of_table (inl still) acts = rw (no_work t t.references still) tt
      of_table (inr moves) acts = other_work t (rw moves at acts) t.references

  all_on_others : act_on_others layout schema.tables ≡ true → AllByRecursion (IsOnOther layout) (works schema Enforced depth tree olds news)
  all_on_others h = all-flat_map (IsOnOther layout) (λ child. filter_map (work_for schema Enforced depth tree olds news child) child.references) schema.tables (works_of schema.tables h)

-- ---- a write

last_of : {A : Type 0} (P : A → Type 0) (below : List A) (last : A) → AllByRecursion P (below ++ last ∷ []) → AllByRecursion P below × P last
last_of P [] last h = (tt, h.0)
last_of P (x ∷ below) last h = let rest = last_of P below last h.1 in ((h.0, rest.0), rest.1)

module _ {layout : Layout} {schema : Schema} (apart : AreApart layout schema) where
  -- one step changes its own table alone
  pub step : (db next : Trees) (edit : Edit) → Applies schema Enforced db edit next → (number : ℕ) → IsTrue (has_table layout number) → number ≢ edit.table.tree → next number ≡ db number
  step db next edit h number is other =
      let it = listed_in schema.tables number (declared_so apart number is) in
      let same = it.numbered in
      subst (λ n. next n ≡ db n) same (all-slice_get (λ (t : Table). t.tree ≢ edit.table.tree → next t.tree ≡ db t.tree) schema.tables it.place it.table it.there h.tables (λ e. other (sym same ∙ e)))

  abbrev ArePreserved : Trees → Trees → Type 0
  ArePreserved db next = (number : ℕ) → IsTrue (has_table layout number) → next number ≡ db number

  own_number : (t : Table) → is_other layout t ≡ true → (number : ℕ) → IsTrue (has_table layout number) → number ≢ t.tree
  own_number t other number is e = absurd (true≢false (sym (rw (sym e, is) at other)))

  -- the actions that are still to come leave the tables of the desk
  settles : (n : ℕ) (db next : Trees) (stack : List Work) → AllByRecursion (IsOnOther layout) stack → Leads schema Enforced n db stack (Ok next) → ArePreserved db next
  settles zero db next stack on h = λ number is. let same : db ≡ next = let e = h.1 in cc in ap (λ (t : Trees). t number) (sym same)
  settles (suc n) db next stack on (below, w, same, acts) = acted (λ mid more. settles n mid next more) acts
    where
      Later : Type 0
      Later = (mid : Trees) (more : List Work) → AllByRecursion (IsOnOther layout) more → Leads schema Enforced n mid more (Ok next) → ArePreserved mid next

      parts : AllByRecursion (IsOnOther layout) below × IsOnOther layout w
      parts = last_of (IsOnOther layout) below w (subst (AllByRecursion (IsOnOther layout)) same on)

      went : Later → (edit : Edit) → is_other layout edit.table ≡ true → Goes schema Enforced (Leads schema Enforced n) db edit (w.depth + 1) below (Ok next) → ArePreserved db next
      went later edit other (inl refused) = absurd (let e = refused.2 in cc)
      went later edit other (inr (inl big)) = absurd (let e = big.3 in cc)
      went later edit other (inr (inr (mid, applied, rest))) = λ number is.
          later mid _ (all-append (IsOnOther layout) below _ parts.0 (all_on_others layout schema (w.depth + 1) edit.table.tree (taken_by db edit) edit.news apart.acts)) rest number is
          ∙ step db mid edit applied number is (own_number edit.table other number is)

      acts_on : Later → (ids : List ℤ) → ActsOn schema Enforced (Leads schema Enforced n) db w below (Ok next) ids → ArePreserved db next
      acts_on later [] h = later db below parts.0 h
      acts_on later (id ∷ ids) h = elim (cases_Bool (refuses w.deed)) [
        | inl refused ↦ absurd (let e : Ok next ≡ Err (Some (Violates ForeignKey)) = rw refused at h in cc)
        | inr does ↦ went later (action_edit db w (id ∷ ids)) parts.1 (rw does at h)
      ]

      acted : Later → Acts schema Enforced (Leads schema Enforced n) db w below (Ok next) → ArePreserved db next
      acted later h = elim (cases_Bool (nat_lt w.depth max_depth)) [
        | inl room ↦ let children = rw room at h in acts_on later children.0 children.2
        | inr deep ↦ absurd (let e : Ok next ≡ Err (Some TooDeep) = rw deep at h in cc)
      ]

  -- the first step of a write, and its actions leave the tables of the desk
  pub first_step : (db next : Trees) (edit : Edit) → Leaves schema Enforced db edit (Ok next) → (mid : Trees) × Applies schema Enforced db edit mid × ArePreserved mid next
  first_step db next edit (inl refused) = absurd (let e = refused.2 in cc)
  first_step db next edit (inr (inl big)) = absurd (let e = big.3 in cc)
  first_step db next edit (inr (inr went)) =
      (went.0, went.1, settles went.2.0 went.0 next _ (all_on_others layout schema 0 edit.table.tree (taken_by db edit) edit.news apart.acts) went.2.1)
