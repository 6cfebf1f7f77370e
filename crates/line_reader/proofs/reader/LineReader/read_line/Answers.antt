use Rattle.std.proofs.Common.{◌≡◌, ◌<◌, List, ℕ, [], ◌∷◌, length, refl, ap, arith}
use Rattle.line_reader.specs.Lines.{feed_place}
use Rattle.line_reader.proofs.Giving.{gives-fed, gives-skipped}
use Rattle.line_reader.proofs.reader.LineReader.read_line.Goals as goal

pub returns-in-Feed-clause-given : goal.returns-in-Feed-clause-given
returns-in-Feed-clause-given g c =
    let read = c.in_ok-place.ensures in let front = rw c.in-Feed.is at read.front in
    let fed : feed_place c.read_on.new.self.pending < length c.read_on.new.self.pending = omega (arith, front.0, front.1) in
    gives-fed _ _ _ _ _ _ read.reads.unread_preserved fed c.give_fed_line.ensures.gives

pub returns-in_ok-skip_line-in-Long-clause-given :
    goal.returns-in_ok-skip_line-in-Long-clause-given
returns-in_ok-skip_line-in-Long-clause-given g c =
    let read = c.in_ok-place.ensures in let skipped = c.in_ok-skip_line-in-Long.ensures in
    let front = rw c.in-Long.is at read.front in
    gives-skipped _ _ _ _ _ read.reads.unread_preserved front.0 front.1 skipped.skips skipped.line

not-empty : (xs : List ℕ) → (xs ≡ [] → ⊥) → 0 < length xs
not-empty [] some = absurd (some refl)
not-empty (x ∷ xs) some = omega arith

pub returns-in-Ended-clause-moves : goal.returns-in-Ended-clause-moves
returns-in-Ended-clause-moves g c =
    λ more. let read = c.in_ok-place.ensures.reads in let last = c.give_last_line.ensures in
    let some : 0 < length c.read_on.new.self.pending = not-empty _ (λ e. more (last.end e).0) in
    omega (arith, some, read.none_given, ap length last.pending, last.taken)
