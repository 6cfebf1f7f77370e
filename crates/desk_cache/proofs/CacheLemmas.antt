-- The cache of a desk, and what keeps it valid.
use Rattle.std.proofs.Common.{◌≡◌, ℕ, Bool, true, false, cond, List, [], All, Option, Some, None, IfSome, IsTrue, inl, inr, refl, sym, ap, subst, ◌∙◌, true≢false, arith}
use Rattle.std.specs.Prelude.{Result, Ok, Err, IfOk, IsErr, OnErr, OnOk}
use Rattle.std.proofs.lemmas.List.{append-nil}
use Rattle.std.specs.BTreeMap.{BTreeMap, IsUnchanged, Updates, get, is_at}
use Rattle.std.specs.Cmp.Lexicographic.{bytes_decides, texts_ties}
use Rattle.std.specs.Map.{lookup}
use Rattle.std.specs.Ordering.{is_eq}
use Rattle.sqlite.specs.Effect.{Database}
use Rattle.sqlite.specs.Held.{Held, state}
use Rattle.sqlite.specs.State.{State, HasCleanDisk, Survives}
use Rattle.sqlite_trees.specs.declared.store.Store as store
use Rattle.any_office.specs.StoredOffice.{made_by, office_after}
use Rattle.any_office.proofs.OfficeHomeLemmas.{leaves_then}
use Rattle.desk_words.specs.Changes.{applied_if_any}
use Rattle.desk_words.specs.Office.{is_office}
use Rattle.desk_words.specs.declared.answer.Answer.{Answer}
use Rattle.desk_words.specs.declared.change.Change.{Change}
use Rattle.desk_words.specs.declared.change.Change.TheVariants.{AddMeeting, InMeeting, SetClosedDays, SetKeys}
use Rattle.desk_words.specs.declared.change.MeetingChange.TheVariants.{Enter}
use Rattle.desk_words.specs.declared.office.OfficeLists.{OfficeLists}
use Rattle.desk_words.specs.declared.reply.Failure.{Failure}
use Rattle.desk_words.specs.declared.reply.Reply.{Reply}
use Rattle.desk_words.specs.declared.request.Call.{Call}
use Rattle.meeting_core.proofs.UnseenEntries.{entry_unseen}
use Rattle.party_views.specs.Views.{public_of}
use Rattle.sql_model.specs.Standing.{Stands}
use Rattle.sql_schema.specs.Statements.{HasTables, layout_two}
use Rattle.sql_schema.specs.Tables.{desk_schema}
use Rattle.sql_open.specs.Known.{AreOpened, IsMadeAs}
use Rattle.sql_open.specs.Crashes.{LeavesItself}
use Rattle.sql_open.specs.WholeDesk.{LeavesWhole}
use Rattle.sql_open.specs.declared.version.KnownVersion.{KnownVersion}
use Rattle.sql_open.specs.declared.version.KnownVersion.TheVariants.{One, Two}
use Rattle.desk_store.specs.Joins.{AreAfter, IsAsItWas, IsDeskIfOpen, LeavesDesk}
use Rattle.desk_cache.specs.Cache.{AreCallersOf, IsCacheOf, IsValidIfAny, IsValid, StandsIfOpen}
use Rattle.desk_deciding.specs.CachedRecords.{IsRecordOf}
use Rattle.desk_store.specs.Cached.{valid_after}
use Rattle.desk_cache.specs.Caching.{Finds, LeavesNext, Performs, only_reply}
use Rattle.desk_deciding.proofs.ReturnedLemmas.{always}
use Rattle.desk_store.specs.TableReads.{HoldsOfDesk}
use Rattle.desk_words.specs.declared.caller.Caller.{Caller}
use Rattle.meeting_core.specs.KeyHolders.{caller_with}
use Rattle.meeting_core.specs.Step.{decided, stepped}
use Rattle.vocabulary.specs.Names.{name_cmp}
use Rattle.desk_cache.specs.declared.cache.Cache.{Cache}
use Rattle.desk_deciding.specs.declared.cached.CachedRecord.{CachedRecord}

-- ---- the office for which tables stand

-- is one
pub stands_one : (s : State) (one other : OfficeLists) → Stands s one → Stands s other → one ≡ other
stands_one s one other p q =
    let both : ◌≡◌ {A = Option OfficeLists} (Some one) (Some other) = sym p.holds ∙ q.holds in
    cc

module _ {S : Type 0} (g : store.Ghosts S) (made : Option Call) (a b : Held S) (stood : StandsIfOpen g a) (leaves : LeavesDesk g made a b) where
  -- after a call they stand for the office after it
  pub stands_after : StandsIfOpen g b
  stands_after clean is_open =
      let before = stood (leaves.was_reliable clean) (leaves.was_open clean is_open) in
      (office_after before.0 made, leaves.stands clean is_open before.0 before.1)

  module _ (ended : b.in_transaction ≡ false) (is_open : HasCleanDisk (state g b) → IsTrue (state g b).is_open) (settled : HasCleanDisk (state g b) → LeavesItself (state g b)) where
    -- and for no other
    behind : (P : OfficeLists → Type 0) → HasCleanDisk (state g b) → ((before : OfficeLists) → Stands (state g a) before → P (office_after before made)) → (office : OfficeLists) → Stands (state g b) office → P office
    behind P clean so office stands =
        let open_now = is_open clean in
        let before = stood (leaves.was_reliable clean) (leaves.was_open clean open_now) in
        subst P (stands_one (state g b) (office_after before.0 made) office (leaves.stands clean open_now before.0 before.1) stands) (so before.0 before.1)

    pub cache_after : (cache : _) → (HasCleanDisk (state g b) → (before : OfficeLists) → Stands (state g a) before → LeavesWhole (state g b) (office_after before made))
        → (HasCleanDisk (state g b) → (before : OfficeLists) → Stands (state g a) before → IsCacheOf (office_after before made) cache) → IsValid g b cache
    cache_after cache whole keeps = record {
      answered = record { ended = ended; is_open = is_open; settled = settled; whole = λ clean. behind (LeavesWhole (state g b)) clean (whole clean) };
      stands = stands_after;
      agrees = λ clean. behind (λ office. IsCacheOf office cache) clean (keeps clean);
    }

-- an empty cache of tables that are known to stand for an office
pub new_cache_valid : {S : Type 0} (g : store.Ghosts S) (made : Option Call) (a b : Held S) (is_known : Bool) (o : Option Cache) → (IsTrue is_known → StandsIfOpen g a) → LeavesDesk g made a b → b.in_transaction ≡ false → (HasCleanDisk (state g b) → IsTrue (state g b).is_open) → (HasCleanDisk (state g b) → LeavesItself (state g b))
    → (HasCleanDisk (state g b) → (before : OfficeLists) → Stands (state g a) before → LeavesWhole (state g b) (office_after before made)) → IfSome o (λ cache. IsTrue is_known × ((office : OfficeLists) → IsCacheOf office cache))
    → (IsTrue is_known → StandsIfOpen g b) × IsValidIfAny g b o
new_cache_valid g made a b is_known None stood leaves ended is_open settled whole begun = (λ known. stands_after g made a b (stood known) leaves, tt)
new_cache_valid g made a b is_known (Some cache) stood leaves ended is_open settled whole begun = (
  λ known. stands_after g made a b (stood known) leaves,
  cache_after g made a b (stood begun.0) leaves ended is_open settled cache whole (λ clean before stands. begun.1 (office_after before made)),
)

-- tables that were opened, and are declared as those of a new desk, stand for an office
pub stands_if_made : (old new : State) (known : KnownVersion) → AreOpened known old new → (IsMadeAs known old.now.schema → (office : OfficeLists) × Stands new office) → new.now.schema ≡ desk_schema → (office : OfficeLists) × Stands new office
stands_if_made old new One opened stands made = stands opened.0
stands_if_made old new Two opened stands made =
    let declared : HasTables layout_two desk_schema = record { others = []; tables = sym (append-nil desk_schema.tables); apart = refl } in
    stands (subst (HasTables layout_two) (sym made ∙ ap (λ (d : Database). d.schema) opened) declared)

-- ---- what is valid after a change

pub public_still : (change : Option Change) (office : OfficeLists) (id : List ℕ) → (valid_after change).records ≡ true → public_of (applied_if_any office change) id ≡ public_of office id
public_still None office id valid = refl
public_still (Some (InMeeting at (Enter entry))) office id valid = entry_unseen office at (Some entry) id
public_still (Some (SetKeys rows)) office id valid = refl
public_still (Some other) office id valid = absurd (true≢false (sym valid))

pub keys_still : (change : Option Change) (office : OfficeLists) → (valid_after change).callers ≡ true → (applied_if_any office change).keys ≡ office.keys
keys_still None office valid = refl
keys_still (Some (AddMeeting meeting)) office valid = refl
keys_still (Some (SetClosedDays days)) office valid = refl
keys_still (Some (SetKeys rows)) office valid = absurd (true≢false (sym valid))
keys_still (Some (InMeeting at what)) office valid = refl

-- a caller is added under its key
caller_added : (office : OfficeLists) (was now : BTreeMap (List ℕ) Caller) (key : List ℕ) (caller : Caller) → Updates name_cmp was now key (Some caller) → caller_with office.keys key ≡ Some caller → AreCallersOf office was → AreCallersOf office now
caller_added office was now key caller updates has callers q =
    subst (λ o. IfSome o (λ c. caller_with office.keys q ≡ Some c)) (sym (updates.0 q))
    ((elim (is_eq (name_cmp key q)) as (λ b. is_eq (name_cmp key q) ≡ b → IfSome (cond b (Some caller) (get name_cmp was q)) (λ c. caller_with office.keys q ≡ Some c)) [
      | true ↦ λ is. let same : key ≡ q = (bytes_decides key q).0 (texts_ties key q ∙ is) in subst (λ k. caller_with office.keys k ≡ Some caller) same has
      | false ↦ λ other. callers q
    ]) refl)

-- or, where memory is refused, none is
pub caller_inserted : {X E : Type 0} (r : Result X E) (office : OfficeLists) (was now : BTreeMap (List ℕ) Caller) (key : List ℕ) (caller : Caller) → OnOk r (Updates name_cmp was now key (Some caller)) → OnErr r (IsUnchanged was now) → AreCallersOf office was
    → caller_with office.keys key ≡ Some caller → AreCallersOf office now
caller_inserted (Ok x) office was now key caller updates same callers has = caller_added office was now key caller updates has callers
caller_inserted (Err e) office was now key caller updates same callers has = λ q. subst (λ es. IfSome (lookup (is_at (name_cmp q)) es) (λ c. caller_with office.keys q ≡ Some c)) (sym same) (callers q)

-- so are the callers and the records of a cache
pub callers_still_valid : (office : OfficeLists) (change : Option Change) (was now : BTreeMap (List ℕ) Caller) (stay : Bool) → stay ≡ (valid_after change).callers → (IsTrue stay → now ≡ was) → (stay ≡ false → (o : OfficeLists) → AreCallersOf o now) → AreCallersOf office was
    → AreCallersOf (applied_if_any office change) now
callers_still_valid office change was now true is same none callers =
    λ key. subst (λ keys. IfSome (get name_cmp now key) (λ caller. caller_with keys key ≡ Some caller)) (sym (keys_still change office (sym is))) (subst (λ (m : BTreeMap (List ℕ) Caller). AreCallersOf office m) (sym (same refl)) callers key)
callers_still_valid office change was now false is same none callers = none refl (applied_if_any office change)

pub records_still_valid : (office : OfficeLists) (change : Option Change) (was now : List CachedRecord) (stay : Bool) → stay ≡ (valid_after change).records → (IsTrue stay → now ≡ was) → (stay ≡ false → (o : OfficeLists) → All (IsRecordOf o) now) → All (IsRecordOf office) was
    → All (IsRecordOf (applied_if_any office change)) now
records_still_valid office change was now true is same none records =
    let still : IsRecordOf office ≡ IsRecordOf (applied_if_any office change) = λ i cached. cached.public ≡ sym (public_still change office cached.meeting (sym is)) i in
    subst (λ (P : CachedRecord → Type 0). All P now) still (subst (λ (l : List CachedRecord). All (IsRecordOf office) l) (sym (same refl)) records)
records_still_valid office change was now false is same none records = none refl (applied_if_any office change)

-- ---- what a desk that serves leaves

pub if_some : {X : Type 0} (P : X → Type 0) (o : Option X) (x : X) → o ≡ Some x → IfSome o P → P x
if_some P o x is h = subst (λ o. IfSome o P) is h

module _ {S : Type 0} (g : store.Ghosts S) where
  -- a call that failed was not made
  pub not_performed : {T : Type 0} (a b : Held S) (call : Call) (r : Result T Failure) (IsShown : Reply → T → Type 0) → IsErr r → LeavesDesk g None a b → b.in_transaction ≡ false → LeavesNext g a b (AreAfter (state g a) call) → Performs g a b call r IsShown
  not_performed a b call (Ok x) IsShown failed leaves ended crash = absurd cc
  not_performed a b call (Err e) IsShown failed leaves ended crash = record {
    done = λ clean office stands. tt;
    declares = λ clean office stands. tt;
    leaves = leaves;
    ended = ended;
    stays_open = λ clean. tt;
    settled = λ clean. tt;
    whole = λ clean office stands. tt;
    still = λ clean office stands none. tt;
    crash = crash;
  }

  -- what is as it was twice is as it was
  as_it_was_then : (a b c : State) → IsAsItWas a b → IsAsItWas b c → IsAsItWas a c
  as_it_was_then a b c one two = (
    record {
      was_open = one.0.was_open;
      is_open = two.0.is_open;
      now_is = two.0.now_is ∙ one.0.now_is;
      committed_is = two.0.committed_is ∙ one.0.committed_is;
      mode = two.0.mode;
    },
    record { changes = two.1.changes ∙ one.1.changes; last_rowid = two.1.last_rowid ∙ one.1.last_rowid },
  )

  on_ok : {T E : Type 0} {P Q : Type 0} (r : Result T E) → (P → Q) → OnOk r P → OnOk r Q
  on_ok (Ok x) next so = next so
  on_ok (Err e) next so = tt

  -- what is read before a call is nothing to it
  pub performed_then : {T : Type 0} (a b c : Held S) (call : Call) (r : Result T Failure) (IsShown : Reply → T → Type 0) → (HasCleanDisk (state g b) → IsTrue (state g b).is_open) → LeavesDesk g None a b → HoldsOfDesk g a b (λ _. IsAsItWas (state g a) (state g b)) → LeavesNext g a b (λ _. ⊥)
      → Performs g b c call r IsShown → Performs g a c call r IsShown
  performed_then a b c call r IsShown is_open leaves same crash then =
      let stands_then : HasCleanDisk (state g c) → (office : OfficeLists) → Stands (state g a) office → Stands (state g b) office = λ clean office stands.
      let early = then.leaves.was_reliable clean in
      leaves.stands early (is_open early) office stands in
      record {
        done = λ clean office stands. then.done clean office (stands_then clean office stands);
        declares = λ clean office stands. on_ok r (λ declared. declared ∙ ap (λ (d : Database). d.schema) (same (then.leaves.was_reliable clean) office stands).0.now_is) (then.declares clean office (stands_then clean office stands));
        leaves = leaves_then (λ desk. HasCleanDisk (state g desk)) (λ desk. IsTrue (state g desk).is_open) (λ desk office. Stands (state g desk) office) (λ desk. (state g desk).faults) (made_by r call) a b c leaves then.leaves;
        ended = then.ended;
        stays_open = then.stays_open;
        settled = then.settled;
        whole = λ clean office stands. then.whole clean office (stands_then clean office stands);
        still = λ clean office stands none. on_ok r (as_it_was_then (state g a) (state g b) (state g c) (same (then.leaves.was_reliable clean) office stands)) (then.still clean office (stands_then clean office stands) none);
        crash = λ clean db may. elim (then.crash clean db may) [
          | inl was ↦ elim (crash (then.leaves.was_reliable clean) db was) [ inl before ↦ inl before | inr none ↦ absurd none ]
          | inr after ↦ inr (leaves.was_open (then.leaves.was_reliable clean) after.0, λ office stands. after.1 office (stands_then clean office stands))
        ];
      }

  -- a reply from the cache is that of the call, and all stays as it is
  pub performed_at_once : {T : Type 0} (a : Held S) (cache : Cache) (call : Call) (r : Result T Failure) (reply : Reply) (IsShown : Reply → T → Type 0) → IsValid g a cache
      → ((office : OfficeLists) → IsCacheOf office cache → IsTrue (is_office office) → decided office call ≡ only_reply reply) → IfOk r (IsShown reply) → Performs g a a call r IsShown
  performed_at_once a cache call r reply IsShown valid decides shown =
      let s = state g a in
      let answer : HasCleanDisk s → (office : OfficeLists) → Stands s office → decided office call ≡ only_reply reply = λ clean office stands. decides office (valid.agrees clean office stands) stands.preserved in
      let step : HasCleanDisk s → (office : OfficeLists) → Stands s office → office ≡ stepped office call = λ clean office stands. ap (λ (a : Answer Change). applied_if_any office a.change) (sym (answer clean office stands)) in
      record {
        done = λ clean office stands. subst (λ x. IfOk r (IsShown x)) (ap (λ (a : Answer Change). a.reply) (sym (answer clean office stands))) shown;
        declares = λ clean office stands. always r refl;
        leaves = record {
          was_reliable = λ clean. clean;
          was_open = λ clean is_open. is_open;
          closes = λ clean was_open. inl was_open;
          counts = omega (arith);
          stands = λ clean is_open office stands. made_or_not r office (step clean office stands) stands;
        };
        ended = valid.answered.ended;
        stays_open = λ clean. always r (valid.answered.is_open clean);
        settled = λ clean. always r (valid.answered.settled clean);
        whole = λ clean office stands. always r (subst (LeavesWhole s) (step clean office stands) (valid.answered.whole clean office stands));
        still = λ clean office stands none. let is_open = valid.answered.is_open clean in
            always r (record { was_open = is_open; is_open = is_open; now_is = refl; committed_is = refl; mode = valid.answered.ended }, record { changes = refl; last_rowid = refl });
        crash = λ clean db may. inl may;
      }
    where
      made_or_not : {T : Type 0} (r : Result T Failure) (office : OfficeLists) → office ≡ stepped office call → Stands (state g a) office → Stands (state g a) (office_after office (made_by r call))
      made_or_not (Ok x) office is stands = subst (Stands (state g a)) is stands
      made_or_not (Err e) office is stands = stands

  -- what is not found leaves no more than it is
  pub not_found : {X : Type 0} (a b : Held S) (r : Result X Failure) (IsSo : OfficeLists → X → Type 0) → IsErr r → LeavesDesk g None a b → b.in_transaction ≡ false → (IsDeskIfOpen (state g a) → Survives (state g a) (state g b) (λ _. ⊥)) → Finds g a b r IsSo
  not_found a b (Ok x) IsSo failed leaves ended crash = absurd cc
  not_found a b (Err e) IsSo failed leaves ended crash = record {
    found = λ clean office stands. tt;
    leaves = leaves;
    ended = ended;
    stays_open = λ clean. tt;
    settled = λ clean. tt;
    whole = λ clean office stands. tt;
    still = λ clean office stands. tt;
    crash = crash;
  }
