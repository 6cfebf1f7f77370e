use Rattle.std.proofs.Common.{◌≡◌, ◌+◌, ◌++◌, ◌∷◌, [], ◌∙◌, ℕ, suc, Bool, true, List, map, ap, sym, subst, arith, cond}
use Rattle.std.proofs.lemmas.List.{map-append}
use Rattle.json_replies.specs.Forms.{decimal_data}
use Rattle.json_replies.specs.Replies.{is_present_in, present_up_to}
use Rattle.json_replies.proofs.WritingLemmas.{WritesFirst, list_written, one_more}
use Rattle.json_replies.proofs.mine.write_presences.Goals as goal

-- one session more in which the party is present
present_more : (presences : List ℕ) (n : ℕ) → is_present_in presences (suc n) ≡ true → present_up_to presences (suc n) ≡ present_up_to presences n ++ suc n ∷ []
present_more presences n is =
    ap (λ (b : Bool). cond b (present_up_to presences n ++ suc n ∷ []) (present_up_to presences n)) is

pub loop-session-preserved-in-Continue-branch-2 : goal.loop-session-preserved-in-Continue-branch-2
loop-session-preserved-in-Continue-branch-2 c =
    let presences = c.args.mine.now.presences in
    let n = c.loop-session.session in
    let next : suc n ≡ n + 1 = omega arith in
    let is : is_present_in presences (suc n) ≡ true = subst (λ k. is_present_in presences k ≡ true) (sym next) (sym c.is_present_in.ensures ∙ c.if-is_present_in.true) in
    let all : map decimal_data (present_up_to presences (n + 1)) ≡ map decimal_data (present_up_to presences n) ++ decimal_data (n + 1) ∷ [] =
    subst (λ k. map decimal_data (present_up_to presences k) ≡ map decimal_data (present_up_to presences n) ++ decimal_data k ∷ []) next
    (ap (map decimal_data) (present_more presences n is) ∙ map-append decimal_data (present_up_to presences n) (suc n ∷ [])) in
    record {
      within = omega (arith, c.loop-session-test.true);
      written = subst (λ ds. WritesFirst ds c.args.out.now c.write_number.new.out) (sym all) (one_more c.loop-session.invariant.written c.in_ok-write_number.ensures);
    }

pub returns : goal.returns
returns c =
    let last : c.loop-session.session ≡ c.args.mine.now.session = omega (arith, c.loop-session.invariant.within, c.loop-session-test.false) in
    list_written (subst (λ k. WritesFirst (map decimal_data (present_up_to c.args.mine.now.presences k)) c.args.out.now c.loop-session.out) last c.loop-session.invariant.written) c.end_array.ensures
