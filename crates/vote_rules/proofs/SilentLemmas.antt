-- The count of a holding on whose shares nothing is cast.
use Rattle.std.proofs.Common.{◌≡◌, ℕ, Bool, true, false, cond, List, [], ◌∷◌, refl, ap, ◌∙◌}
use Rattle.std.specs.Prelude.{Option, Some, None, option_map}
use Rattle.std.specs.List.{cons_option, filter_map}
use Rattle.vocabulary.specs.declared.range.TheConstants.{MOST_PLACES}
use Rattle.vocabulary.specs.Places.{holds}
use Rattle.vocabulary.specs.declared.kinds.Capacity.{Capacity}
use Rattle.vocabulary.specs.declared.kinds.Capacity.TheVariants.{Proxy, Rep}
use Rattle.vocabulary.specs.declared.kinds.Way.{Way}
use Rattle.desk_words.specs.declared.records.Appointment.{Appointment}
use Rattle.desk_words.specs.declared.records.Authority.{Authority}
use Rattle.desk_words.specs.declared.records.RegisterRow.{RegisterRow}
use Rattle.proxy_rules.specs.Parties.{authorised_by}
use Rattle.share_blocks.specs.Covers.{pieces_after}
use Rattle.vote_rules.specs.Casts.{Share, find_map, instructed_way}
use Rattle.vote_rules.specs.VoteCovers.{as_proxy, cast_among, vote_covers, vote_among, way_at, way_tagged}
use Rattle.vote_rules.specs.Votes.{Casts, by_the_holder, by_the_proxy, by_the_representatives, common_way, first_that_applies, valid_vote}
use Rattle.vote_rules.specs.declared.received.BlockCast.{BlockCast}

same_twice : (b : Bool) (l : List ℕ) → cond b l l ≡ l
same_twice true l = refl
same_twice false l = refl

-- where nothing is covered no place has a tag, and so no way
way_nowhere : (instructed : Option Way) (place : ℕ) → way_at instructed (pieces_after []) place ≡ None
way_nowhere instructed place = ap (find_map (way_tagged instructed)) (same_twice (holds (record { from = 1; to = MOST_PLACES }) place) [])

nothing_among : (last : List ℕ → Option ℕ) → ((voter : List ℕ) → last voter ≡ None) → (resolution : ℕ) (share : Share) (capacity : Capacity) (voter : List ℕ) → cast_among [] last resolution share capacity voter ≡ None
nothing_among last none resolution share capacity voter =
    let instructed = as_proxy capacity (instructed_way resolution share voter) in
    ap (λ (order : Option ℕ). way_at instructed (pieces_after (vote_covers capacity voter [] order)) share.place) (none voter)
    ∙ way_nowhere instructed share.place

-- ---- the rules, where nobody casts

no_holder : (b : Bool) (o : Option Way) → o ≡ None → cond b (option_map (λ way. Some way) o) None ≡ None
no_holder true o e = ap (option_map (λ (way : Way). Some way)) e
no_holder false o e = refl

nothing_said : (cast : List ℕ → Option Way) → ((voter : List ℕ) → cast voter ≡ None) → (voters : List (List ℕ)) → filter_map cast voters ≡ []
nothing_said cast none [] = refl
nothing_said cast none (voter ∷ voters) = ap (λ (o : Option Way). cons_option o (filter_map cast voters)) (none voter) ∙ nothing_said cast none voters

no_representatives : (b : Bool) (ways : List Way) → ways ≡ [] → cond b (common_way ways) None ≡ None
no_representatives true ways e = ap common_way e
no_representatives false ways e = refl

no_proxy : (cast : Casts) → ((capacity : Capacity) (voter : List ℕ) → cast capacity voter ≡ None) → (resolution : ℕ) (governing : Option Appointment) → by_the_proxy cast resolution governing ≡ None
no_proxy cast none resolution None = refl
no_proxy cast none resolution (Some a) = ap (option_map _) (none Proxy a.proxy)

no_vote : (cast : Casts) → ((capacity : Capacity) (voter : List ℕ) → cast capacity voter ≡ None) → (authorities : List Authority) (resolution : ℕ) (row : RegisterRow) (governing : Option Appointment) → valid_vote cast authorities resolution row governing ≡ None
no_vote cast none authorities resolution row governing =
    let holder : by_the_holder cast row ≡ None = no_holder _ _ (none _ row.member) in
    let representatives : by_the_representatives cast authorities row ≡ None = no_representatives _ _ (nothing_said (cast Rep) (none Rep) (authorised_by authorities row.member)) in
    let proxy : by_the_proxy cast resolution governing ≡ None = no_proxy cast none resolution governing in
    λ i. first_that_applies (holder i ∷ representatives i ∷ proxy i ∷ [])

-- with no blocks, and nothing as instructed, a share has no vote
pub silent : (casts : List BlockCast) (last : List ℕ → Option ℕ) → casts ≡ [] → ((voter : List ℕ) → last voter ≡ None) → (authorities : List Authority) (resolution : ℕ) (row : RegisterRow) (share : Share)
    → vote_among casts last authorities resolution row share ≡ None
silent casts last e none authorities resolution row share =
    ap (λ (l : List BlockCast). vote_among l last authorities resolution row share) e
    ∙ no_vote (cast_among [] last resolution share) (nothing_among last none resolution share) authorities resolution row share.governing
