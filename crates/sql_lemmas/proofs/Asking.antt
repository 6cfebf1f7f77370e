-- A query by a fixed text commits nothing, whatever the tables are: the text asks for nothing of what it writes.
use Rattle.std.proofs.Common.{◌≡◌, ◌⊎◌, inl, inr, ℕ, List, true, false, if◌then◌else◌, Option, None, Ok, Err, Result, IfOk, IfErr, IsTrue, refl, ap, subst, ◌∙◌, ◌+◌}
use Rattle.std.proofs.lemmas.Bool.{cases_Bool}
use Rattle.sqlite.specs.declared.error.Error.{Error}
use Rattle.sqlite.specs.Order.{Row}
use Rattle.sqlite.specs.Schema.{Schema}
use Rattle.sqlite.specs.Clock.{timed}
use Rattle.sqlite.specs.Listing.{if_select, is_select, listing_schema, reads_listing, understood}
use Rattle.sqlite.specs.Held.{Held, state}
use Rattle.sqlite.specs.State.{State, HasCleanDisk, FailsToQuery, FailsToShow, IsNotRun, IsTooLate, Shown, ShowsRows, Survives}
use Rattle.sqlite_schema.specs.declared.command.Command.{Command}
use Rattle.sqlite_schema.specs.declared.command.Returning.{Returning}
use Rattle.sqlite_syntax.specs.declared.statement.Parsed.{Parsed}
use Rattle.sqlite_resolve.specs.declared.compiled.Compiled.{Compiled}
use Rattle.sqlite_resolve.specs.declared.error.CompileError.TheVariants.{NoSuchTable}
use Rattle.sqlite_resolve.specs.Lowering.{Checked, and_then}
use Rattle.sqlite_resolve.specs.Compile.{command, compiled, first, meaning, planned, returning, returning_by, small, timed as timed_in, with_command}
use Rattle.sqlite_trees.specs.declared.store.Store as store
use Rattle.sql_schema.specs.Statements.{CommitsNothing}
use Rattle.sql_lemmas.proofs.Commits.{query_opened}

-- the text has no RETURNING, as a query has none
abbrev pub Asks : Checked Parsed → Type 0
Asks (Ok p) = (schema : Schema) (base : ℕ) → returning_by schema base p.statement ≡ Ok None
Asks (Err e) = ⊥

is_ok_of : {A : Type 0} (a b : A) → ◌≡◌ {A = Checked A} (Ok a) (Ok b) → b ≡ a
is_ok_of a b h = cc

abbrev Found : Type 0
Found = Command × Option Returning

with_none : (r : Checked Command) (found : Found) → ◌≡◌ {A = Checked Found} (and_then r (λ c. Ok (c, None))) (Ok found) → found.1 ≡ None
with_none (Ok c) found h = ap (λ (x : Found). x.1) (is_ok_of (c, None) found h)
with_none (Err e) found h = absurd cc

with_formats : (r : Checked Found) (formats : List (List ℕ)) (plan : List (List ℕ) × Found) → ((found : Found) → r ≡ Ok found → found.1 ≡ None) → ◌≡◌ {A = Checked (List (List ℕ) × Found)} (and_then r (λ found. Ok (formats, found))) (Ok plan) → plan.1.1 ≡ None
with_formats (Ok found) formats plan next h = ap (λ (x : List (List ℕ) × Found). x.1.1) (is_ok_of (formats, found) plan h) ∙ next found refl
with_formats (Err e) formats plan next h = absurd cc

with_plan : (p : Parsed) (r : Checked (List (List ℕ) × Found)) (c : Compiled) → ((plan : List (List ℕ) × Found) → r ≡ Ok plan → plan.1.1 ≡ None) → ◌≡◌ {A = Checked Compiled} (and_then r (λ plan. Ok (with_command p plan))) (Ok c) → c.returning ≡ None
with_plan p (Ok plan) c next h = ap (λ (x : Compiled). x.returning) (is_ok_of (with_command p plan) c h) ∙ next plan refl
with_plan p (Err e) c next h = absurd cc

meaning_bare : (schema : Schema) (p : Parsed) (base : ℕ) (found : Found) → returning_by schema base p.statement ≡ Ok None → meaning schema p base ≡ Ok found → found.1 ≡ None
unfolding meaning returning
meaning_bare schema p base found none h =
    with_none (command schema p.formats base p.statement) found
    (subst (λ (r : Checked (Option Returning)). ◌≡◌ {A = Checked Found} (and_then r (λ shown. and_then (command schema p.formats base p.statement) (λ c. Ok (c, shown)))) (Ok found)) none h)

planned_bare : (schema : Schema) (p : Parsed) (plan : List (List ℕ) × Found) → ((base : ℕ) → returning_by schema base p.statement ≡ Ok None) → planned schema p ≡ Ok plan → plan.1.1 ≡ None
unfolding planned
planned_bare schema p plan none h = with_formats (meaning schema p (small p.names + small (timed_in schema p.formats p.statement))) (timed_in schema p.formats p.statement) plan (λ found is. meaning_bare schema p _ found (none _) is) h

parsed_bare : (schema : Schema) (r : Checked Parsed) (c : Compiled) → Asks r → ◌≡◌ {A = Checked Compiled} (and_then r (λ p. and_then (planned schema p) (λ plan. Ok (with_command p plan)))) (Ok c) → c.returning ≡ None
parsed_bare schema (Ok p) c asks h = with_plan p (planned schema p) c (λ plan is. planned_bare schema p plan (asks schema) is) h
parsed_bare schema (Err e) c asks h = absurd asks

selected : (r : Checked Compiled) (c : Compiled) → if_select r ≡ Ok c → r ≡ Ok c
selected (Ok d) c h = (elim (is_select d.command) as (λ b. ◌≡◌ {A = Checked Compiled} (if b then Ok d else Err NoSuchTable) (Ok c) → ◌≡◌ {A = Checked Compiled} (Ok d) (Ok c)) [ true ↦ λ h. h | false ↦ λ h. absurd cc ]) h
selected (Err e) c h = absurd cc

module _ (sql : List ℕ) (asks : Asks (first sql)) where
  compiled_bare : (schema : Schema) (c : Compiled) → compiled schema sql ≡ Ok c → c.returning ≡ None
  unfolding compiled
  compiled_bare schema c h = parsed_bare schema (first sql) c asks h

  bare : (schema : Schema) (c : Compiled) → understood schema sql ≡ Ok c → c.returning ≡ None
  unfolding understood
  bare schema c h =
      elim (cases_Bool (reads_listing schema sql)) [
        | inl is ↦ compiled_bare listing_schema c (selected (compiled listing_schema sql) c (rw is at h))
        | inr other ↦ compiled_bare schema c (rw other at h)
      ]

  module _ (params : Row) (old new : State) where
    shown_commits : (rows : List Row) → Shown sql params old new rows → new.committed ≡ old.committed
    unfolding Shown
    shown_commits rows h = (subst (ShowsRows old new sql h.0 (timed params h.0.formats h.1.now) rows) (bare old.now.schema h.0 h.1.is) h.2).3.0.committed_is

    not_run_commits : (e : Error) → IsNotRun old new sql params e → IsTrue new.is_open → new.committed ≡ old.committed
    unfolding IsNotRun
    not_run_commits e (inl h) is_open = h.1.0.committed_is
    not_run_commits e (inr h) is_open = (h.3.undone is_open).1

    refused_commits : (e : Error) → FailsToQuery sql params old new e ⊎ IsTooLate sql params old new e → IsTrue new.is_open → new.committed ≡ old.committed
    unfolding FailsToQuery
    refused_commits e (inl (inl h)) is_open = not_run_commits e h is_open
    refused_commits e (inl (inr h)) is_open = (subst (FailsToShow old new sql h.0 (timed params h.0.formats h.1.now) e) (bare old.now.schema h.0 h.1.is) h.2).3.0.committed_is
    refused_commits e (inr h) is_open = h.5.0.committed_is

    keeps : {V : Type 0} (items : V → List Row) (r : Result V Error) → IfOk r (λ v. Shown sql params old new (items v)) → IfErr r (λ e. FailsToQuery sql params old new e ⊎ IsTooLate sql params old new e)
        → IsTrue new.is_open → new.committed ≡ old.committed
    keeps items (Ok v) ok err is_open = shown_commits (items v) ok
    keeps items (Err e) ok err is_open = refused_commits e err is_open

pub commits_nothing : {S V : Type 0} (g : store.Ghosts S) (a b : Held S) (items : V → List Row) (sql : List ℕ) (params : Row) (r : Result V Error) → Asks (first sql)
    → (HasCleanDisk (state g b) → IfOk r (λ v. Shown sql params (state g a) (state g b) (items v)))
    → (HasCleanDisk (state g b) → IfErr r (λ e. FailsToQuery sql params (state g a) (state g b) e ⊎ IsTooLate sql params (state g a) (state g b) e))
    → Survives (state g a) (state g b) (λ _. ⊥) → CommitsNothing g a b
commits_nothing g a b items sql params r asks ok err crash = record {
  preserved = λ clean. record {
    was_open = query_opened items sql params (state g a) (state g b) r (ok clean) (err clean);
    committed = keeps sql asks params (state g a) (state g b) items r (ok clean) (err clean);
  };
  crash = crash;
}
