-- What came of a source.
use Rattle.std.proofs.Common.{◌≡◌, ℕ, List, [], Option, Some, None, refl, subst, arith}
use Rattle.std.specs.Prelude.{IfSome}
use Rattle.std.specs.Io.KnownBytes.{Consumes}
use Rattle.http_heads.specs.Heads.{ReceivesBytes}
use Rattle.http_requests.specs.ReceivedRequests.{TakesAtMost}

known-map : {P Q : List ℕ → Type 0} → ((bytes : List ℕ) → P bytes → Q bytes) → (a : Option (List ℕ)) → IfSome a P → IfSome a Q
known-map next None h = tt
known-map next (Some input) h = next input h

known-all : {P : List ℕ → Type 0} → ((bytes : List ℕ) → P bytes) → (a : Option (List ℕ)) → IfSome a P
known-all all None = tt
known-all all (Some input) = all input

-- what holds of all that this holds of
pub came-map : {P Q T U : List ℕ → Type 0} {a z : Option (List ℕ)} {p q : ℕ} → ((bytes : List ℕ) → P bytes → Q bytes) → ((bytes : List ℕ) → P bytes → T bytes → U bytes)
    → TakesAtMost P T a z p q → TakesAtMost Q U a z p q
came-map {P} {Q} {T} {U} {a} {z} {p} {q} next takes c = record {
  bytes = c.bytes;
  consumed = c.consumed;
  counted = c.counted;
  taken = takes c.bytes c.holds c.taken;
  holds = next c.bytes c.holds;
  holds_known = known-map next a c.holds_known;
}

none-consumed : (a : Option (List ℕ)) → Consumes a a []
none-consumed None = tt
none-consumed (Some input) = refl

-- nothing came
pub came-none : (P T : List ℕ → Type 0) (a : Option (List ℕ)) (p : ℕ) → ((bytes : List ℕ) → P bytes) → T [] → TakesAtMost P T a a p p
came-none P T a p all none = record {
  bytes = [];
  consumed = none-consumed a;
  counted = omega arith;
  taken = none;
  holds = all [];
  holds_known = known-all all a;
}

-- what a reader of heads has read
pub came-read : (P T : List ℕ → Type 0) (read : List ℕ) (a z : Option (List ℕ)) (p q : ℕ) → ReceivesBytes [] read a z p q → T read → P read → IfSome a P → TakesAtMost P T a z p q
came-read P T read a z p q c takes holds known =
    let is : read ≡ c.bytes = c.behind in
    record {
      bytes = c.bytes;
      consumed = c.consumed;
      counted = c.counted;
      taken = subst T is takes;
      holds = subst P is holds;
      holds_known = known;
    }
