-- One look-up after another.
use Rattle.std.proofs.Common.{◌≡◌, Option, Result, Ok, Err, IsErrAnd, ap, refl, sym, subst}
use Rattle.desk_words.specs.declared.office.MeetingLists.{MeetingLists}
use Rattle.row_source.specs.TrueLookUps.{IsTrueLookUp}

-- an error that is handed on as it is
pub handed_on : {X E : Type 0} (r : Result X E) (e : E) → IsErrAnd r (λ y. y ≡ e) → r ≡ Err e
handed_on (Ok x) e none = absurd none
handed_on (Err y) e same = ap Err same

module _ {S E : Type 0} (trusted : S → Type 0) (shows : S → Option MeetingLists → Type 0) (keeps leaves : S → S → Type 0) (may_fail : E → Type 0) where
  -- what is made of what was looked up last
  pub holds_so : {X Y : Type 0} (a b : S) (x : X) (y : Y) (P : Option MeetingLists → X → Type 0) (Q : Option MeetingLists → Y → Type 0)
      → IsTrueLookUp trusted shows keeps leaves may_fail a b (Ok x) P → ((found : Option MeetingLists) → P found x → Q found y) → IsTrueLookUp trusted shows keeps leaves may_fail a b (Ok y) Q
  holds_so a b x y P Q one next = record { holds = λ trust found shown. next found (one.holds trust found shown); preserved = one.preserved; left = one.left }

  -- the same said in other words
  pub holds_as : {X : Type 0} (a b : S) (r : Result X E) (P Q : Option MeetingLists → X → Type 0)
      → ((found : Option MeetingLists) (x : X) → P found x → Q found x) → IsTrueLookUp trusted shows keeps leaves may_fail a b r P → IsTrueLookUp trusted shows keeps leaves may_fail a b r Q
  holds_as a b (Ok x) P Q next one = record { holds = λ trust found shown. next found x (one.holds trust found shown); preserved = one.preserved; left = one.left }
  holds_as a b (Err e) P Q next one = record { holds = one.holds; preserved = one.preserved; left = one.left }

  -- and so is one that is met behind it
  pub holds_refused : {X Y : Type 0} (a b : S) (x : X) (r : Result Y E) (P : Option MeetingLists → X → Type 0) (Q : Option MeetingLists → Y → Type 0) (gives : E → Type 0)
      → ((e : E) → gives e → may_fail e) → IsErrAnd r gives → IsTrueLookUp trusted shows keeps leaves may_fail a b (Ok x) P → IsTrueLookUp trusted shows keeps leaves may_fail a b r Q
  holds_refused a b x (Ok y) P Q gives may none one = absurd none
  holds_refused a b x (Err e) P Q gives may is one = record { holds = λ _ _ _. may e is; preserved = tt; left = one.left }

  module _ (still_shows : (a b : S) → keeps a b → trusted b → (found : Option MeetingLists) → shows a found → shows b found) (was_trusted : (a b : S) → leaves a b → trusted b → trusted a)
      (keeps_then : (a b c : S) → keeps a b → keeps b c → keeps a c) (leaves_then : (a b c : S) → keeps a b → leaves b c → leaves a c) where
    -- what was looked up first stays known
    pub holds_both : {X Y : Type 0} (a b c : S) (x : X) (y : Y) (P : Option MeetingLists → X → Type 0) (Q : Option MeetingLists → Y → Type 0)
        → IsTrueLookUp trusted shows keeps leaves may_fail a b (Ok x) P → IsTrueLookUp trusted shows keeps leaves may_fail b c (Ok y) Q → IsTrueLookUp trusted shows keeps leaves may_fail a c (Ok y) (λ found z. P found x × Q found z)
    holds_both a b c x y P Q one two = record {
      holds = λ trust found shown. let first = was_trusted b c two.left trust in (one.holds first found shown, two.holds trust found (still_shows a b one.preserved first found shown));
      preserved = keeps_then a b c one.preserved two.preserved;
      left = leaves_then a b c one.preserved two.left;
    }

    -- a look-up behind it may fail
    pub holds_after : {X Y Z : Type 0} (a b c : S) (x : X) (e : E) (r : Result Z E) (P : Option MeetingLists → X → Type 0) (Q : Option MeetingLists → Y → Type 0) (R : Option MeetingLists → Z → Type 0)
        → r ≡ Err e → IsTrueLookUp trusted shows keeps leaves may_fail a b (Ok x) P → IsTrueLookUp trusted shows keeps leaves may_fail b c (Err e) Q → IsTrueLookUp trusted shows keeps leaves may_fail a c r R
    holds_after {X} {Y} {Z} a b c x e r P Q R is one two = subst (λ (q : Result Z E). IsTrueLookUp trusted shows keeps leaves may_fail a c q R) (sym is) (record {
      holds = λ trust found shown. two.holds trust found (still_shows a b one.preserved (was_trusted b c two.left trust) found shown);
      preserved = tt;
      left = leaves_then a b c one.preserved two.left;
    })

    -- so may it not, and then both are known
    pub holds_then : {X Y : Type 0} (a b c : S) (x : X) (r : Result Y E) (P : Option MeetingLists → X → Type 0) (Q R : Option MeetingLists → Y → Type 0) → ((found : Option MeetingLists) (y : Y) → P found x → Q found y → R found y)
        → IsTrueLookUp trusted shows keeps leaves may_fail a b (Ok x) P → IsTrueLookUp trusted shows keeps leaves may_fail b c r Q → IsTrueLookUp trusted shows keeps leaves may_fail a c r R
    holds_then a b c x (Ok y) P Q R so one two = holds_so a c y y (λ found z. P found x × Q found z) R (holds_both a b c x y P Q one two) (λ found p. so found y p.0 p.1)
    holds_then a b c x (Err e) P Q R so one two = holds_after a b c x e (Err e) P Q R refl one two
