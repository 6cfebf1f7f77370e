-- The valid vote of a share of one row, by the casts of the voters who may vote for it.
use Rattle.std.proofs.Common.{◌≡◌, ℕ, ◌+◌, ◌<◌, ◌≤◌, Bool, true, false, ◌&&◌, cond, List, [], ◌∷◌, ◌++◌, map, refl, sym, ap, ◌∙◌, arith}
use Rattle.std.specs.Prelude.{All, Option, Some, None, nat_le, filter, reverse, option_map, option_and_then}
use Rattle.std.specs.List.{cons_option, filter_map, slice_get}
use Rattle.std.proofs.lemmas.List.Elements.{All-append, All-cons, All-filter, All-head, All-nil, All-tail, All-weaker}
use Rattle.std.proofs.lemmas.Option.{slice_get-map}
use Rattle.std.proofs.Math.Bool.{and-false}
use Rattle.std.proofs.lemmas.Bool.{and_from, eqb-true, le-leb, leb-false}
use Rattle.vocabulary.specs.declared.range.TheConstants.{MOST_PLACES}
use Rattle.vocabulary.specs.Names.{same_name}
use Rattle.vocabulary.specs.Places.{holds}
use Rattle.vocabulary.specs.declared.kinds.Capacity.{Capacity}
use Rattle.vocabulary.specs.declared.kinds.Capacity.TheVariants.{Member, Rep, Proxy}
use Rattle.vocabulary.specs.declared.kinds.HolderKind.{HolderKind}
use Rattle.vocabulary.specs.declared.kinds.HolderKind.TheVariants.{Individual, Corporation, Treasury}
use Rattle.vocabulary.specs.declared.kinds.Way.{Way}
use Rattle.desk_words.proofs.WordRowLemmas.{same_name-refl}
use Rattle.desk_words.specs.declared.records.Appointment.{Appointment}
use Rattle.desk_words.specs.declared.records.Authority.{Authority}
use Rattle.desk_words.specs.declared.records.RegisterRow.{RegisterRow}
use Rattle.proxy_rules.specs.Governing.{governing_in}
use Rattle.proxy_rules.specs.Shares.{is_corporation, is_individual}
use Rattle.proxy_rules.specs.Tiles.{ArePieces, IsGoverned, are_tiled, governed_ranges}
use Rattle.proxy_rules.specs.declared.holdings.Holding.{Holding}
use Rattle.proxy_rules.specs.declared.meeting_records.Cutoffs.{Cutoffs}
use Rattle.proxy_rules.specs.declared.pieces.GovernedPiece.{GovernedPiece}
use Rattle.proxy_rules.proofs.TileLemmas.{tiled}
use Rattle.share_blocks.specs.Covers.{Cover}
use Rattle.share_blocks.specs.Pieces.{is_place}
use Rattle.share_blocks.proofs.BlockCoverLemmas.{tags_at-place}
use Rattle.vote_rules.specs.Ballots.{capacity_for, cuts_of, governing_at, piece_at, vote_by, vote_by_governing, vote_by_proxy, vote_if, voters_for}
use Rattle.vote_rules.specs.Casts.{Share, find_map, instructed_way}
use Rattle.proxy_rules.specs.Parties.{authorised_by, same_capacity}
use Rattle.proxy_rules.specs.Instructions.{instructed_on, same_way}
use Rattle.vote_rules.specs.VoteCovers.{as_proxy, cast_among, cover_of, vote_covers, whole_cover, way_number, vote_pieces, vote_among, way_at, way_tagged}
use Rattle.vote_rules.specs.InstructedCasts.{is_after, is_before}
use Rattle.vote_rules.specs.Tallies.{share_at}
use Rattle.vote_rules.specs.Votes.{Casts, common_way, first_that_applies, valid_vote}
use Rattle.vote_rules.specs.declared.received.BlockCast.{BlockCast}
use Rattle.vote_rules.proofs.CommonWays.{same_way-refl}
use Rattle.vote_rules.proofs.VoteCastLemmas.{cover_way, way_of_covers}
use Rattle.vote_rules.proofs.VoteListLemmas.{All-reverse, filter_map_mapped, find-agree, find_map-agree}

-- ---- the rules, by those who vote for the holder

-- one voter alone
alone : (o : Option Way) → common_way (cons_option o []) ≡ option_map (λ way. Some way) o
alone None = refl
alone (Some way) = ap (λ b. Some (cond (b && true) (Some way) None)) (same_way-refl way)

last_rule : (P : Option (Option Way)) (o : Option (Option Way)) (vote : Option Way) → first_that_applies (P ∷ []) ≡ vote → first_that_applies (o ∷ P ∷ []) ≡ first_that_applies (o ∷ Some vote ∷ [])
last_rule P None vote is = is
last_rule P (Some w) vote is = refl

middle : (o : Option Way) (P : Option (Option Way)) → first_that_applies (option_map (λ way. Some way) o ∷ None ∷ P ∷ []) ≡ first_that_applies (option_map (λ way. Some way) o ∷ P ∷ [])
middle None P = refl
middle (Some w) P = refl

rules : (cast : Casts) (authorities : List Authority) (kind : HolderKind) (member : List ℕ) (P : Option (Option Way)) (vote : Option Way) → first_that_applies (P ∷ []) ≡ vote
    → first_that_applies
    ((cond (is_individual kind) (option_map (λ way. Some way) (cast Member member)) None)
    ∷ (cond (is_corporation kind) (common_way (filter_map (cast Rep) (authorised_by authorities member))) None)
    ∷ P ∷ [])
    ≡ first_that_applies (common_way (filter_map (cast (capacity_for kind)) (voters_for authorities kind member)) ∷ Some vote ∷ [])
rules cast authorities Individual member P vote is =
    middle (cast Member member) P
    ∙ last_rule P (option_map (λ way. Some way) (cast Member member)) vote is
    ∙ ap (λ o. first_that_applies (o ∷ Some vote ∷ [])) (sym (alone (cast Member member)))
rules cast authorities Corporation member P vote is = last_rule P (common_way (filter_map (cast Rep) (authorised_by authorities member))) vote is
rules cast authorities Treasury member P vote is = is

-- ---- one row

module _ (cutoffs : Cutoffs) (holding : Holding) (authorities : List Authority) (casts : List BlockCast) (last : List ℕ → Option ℕ) (resolution : ℕ) (row : RegisterRow) (governed : List GovernedPiece) where
  -- the vote that is asked of a place
  abbrev pub asked_vote : ℕ → Option Way
  asked_vote place =
      vote_by (map (vote_pieces casts last (capacity_for row.kind)) (voters_for authorities row.kind row.member)) (map (vote_pieces casts last Proxy) (map (λ (a : Appointment). a.proxy) holding.appointed))
      holding.appointed (governing_at governed place) resolution place

  -- the vote that is meant
  abbrev pub meant_vote : ℕ → Option Way
  meant_vote place = vote_among casts last authorities resolution row (share_at cutoffs holding row.member place)

  abbrev share_by : Option Appointment → ℕ → Share
  share_by governing place = record { member = row.member; place = place; governing = governing }

  -- ---- what governs a place

  governed_from : (pieces : List GovernedPiece) (first place : ℕ) → are_tiled first (governed_ranges pieces) holding.shares ≡ true → All (IsGoverned cutoffs holding) pieces → first ≤ place → place ≤ holding.shares
      → option_and_then (slice_get holding.appointed) (governing_at pieces place) ≡ governing_in cutoffs holding place
  governed_from [] first place all each low high = let e : first ≡ holding.shares + 1 = eqb-true first (holding.shares + 1) all in absurd (omega arith)
  governed_from (piece ∷ pieces) first place all each low high =
      let t = tiled first piece.range (governed_ranges pieces) holding.shares all in
      (elim (nat_le place piece.range.to) as (λ b. nat_le place piece.range.to ≡ b → option_and_then (slice_get holding.appointed) (governing_at (piece ∷ pieces) place) ≡ governing_in cutoffs holding place) [
        | true ↦ λ e.
            let held : holds piece.range place ≡ true = and_from (nat_le piece.range.from place) (nat_le place piece.range.to) (le-leb piece.range.from place (omega (arith, t.begins))) e in
            ap (λ b. option_and_then (slice_get holding.appointed) (option_and_then (λ (p : GovernedPiece). p.by) (cond b (Some piece) (piece_at pieces place)))) held
            ∙ sym (All-head (IsGoverned cutoffs holding) piece pieces each place held)
        | false ↦ λ e.
            let past : holds piece.range place ≡ false = ap (λ b. nat_le piece.range.from place && b) e ∙ and-false (nat_le piece.range.from place) in
            let above : piece.range.to < place = leb-false place piece.range.to e in
            ap (λ b. option_and_then (slice_get holding.appointed) (option_and_then (λ (p : GovernedPiece). p.by) (cond b (Some piece) (piece_at pieces place)))) past
            ∙ governed_from pieces (piece.range.to + 1) place t.rest (All-tail (IsGoverned cutoffs holding) piece pieces each) (omega (arith, above)) high
      ]) refl

  -- ---- the vote by the proxy

  found_pieces : (o : Option Appointment) (place : ℕ)
      → option_and_then (λ (a : Appointment). option_and_then (vote_by_proxy resolution place a) (option_map (vote_pieces casts last Proxy) (option_map (λ (b : Appointment). b.proxy) o))) o
      ≡ option_and_then (λ (a : Appointment). option_and_then (vote_if (instructed_on resolution a.instructions)) (cast_among casts last resolution (share_by o place) Proxy a.proxy)) o
  found_pieces None place = refl
  found_pieces (Some a) place =
      ap (λ b. option_and_then (vote_if (instructed_on resolution a.instructions)) (way_at (cond b (instructed_on resolution a.instructions) None) (vote_pieces casts last Proxy a.proxy) place)) (sym (same_name-refl a.proxy))

  by_place : (by : Option ℕ) (place : ℕ)
      → vote_by_governing resolution place holding.appointed (map (vote_pieces casts last Proxy) (map (λ (a : Appointment). a.proxy) holding.appointed)) by
      ≡ option_and_then (λ (a : Appointment). option_and_then (vote_if (instructed_on resolution a.instructions)) (cast_among casts last resolution (share_by (option_and_then (slice_get holding.appointed) by) place) Proxy a.proxy)) (option_and_then (slice_get holding.appointed) by)
  by_place None place = refl
  by_place (Some at) place =
      ap (λ o. option_and_then (λ (a : Appointment). option_and_then (vote_by_proxy resolution place a) o) (slice_get holding.appointed at))
      (slice_get-map (vote_pieces casts last Proxy) (map (λ (a : Appointment). a.proxy) holding.appointed) at
      ∙ ap (option_map (vote_pieces casts last Proxy)) (slice_get-map (λ (a : Appointment). a.proxy) holding.appointed at))
      ∙ found_pieces (slice_get holding.appointed at) place

  flat : (o : Option Appointment) (place : ℕ) (share : Share)
      → first_that_applies (option_and_then (λ (a : Appointment). option_map (vote_if (instructed_on resolution a.instructions)) (cast_among casts last resolution share Proxy a.proxy)) o ∷ [])
      ≡ option_and_then (λ (a : Appointment). option_and_then (vote_if (instructed_on resolution a.instructions)) (cast_among casts last resolution share Proxy a.proxy)) o
  flat None place share = refl
  flat (Some a) place share =
      elim (cast_among casts last resolution share Proxy a.proxy) as (λ o. first_that_applies (option_map (vote_if (instructed_on resolution a.instructions)) o ∷ []) ≡ option_and_then (vote_if (instructed_on resolution a.instructions)) o) [ None ↦ refl | Some way ↦ refl ]

  not_proxy : (kind : HolderKind) (o : Option Way) → None ≡ as_proxy (capacity_for kind) o
  not_proxy Individual o = refl
  not_proxy Corporation o = refl
  not_proxy Treasury o = refl

  -- what is asked of a place is its vote
  pub asked_is_meant : (place : ℕ) → ArePieces cutoffs holding governed → 1 ≤ place → place ≤ holding.shares → asked_vote place ≡ meant_vote place
  asked_is_meant place are low high =
      let by = governing_at governed place in
      let governing = option_and_then (slice_get holding.appointed) by in
      let share = share_by governing place in
      let cast = cast_among casts last resolution share in
      let vote = option_and_then (λ (a : Appointment). option_and_then (vote_if (instructed_on resolution a.instructions)) (cast Proxy a.proxy)) governing in
      let capacity = capacity_for row.kind in
      ap (λ ways. first_that_applies (common_way ways ∷ Some (vote_by_governing resolution place holding.appointed (map (vote_pieces casts last Proxy) (map (λ (a : Appointment). a.proxy) holding.appointed)) by) ∷ []))
      (filter_map_mapped (λ pieces. way_at None pieces place) (vote_pieces casts last capacity) (voters_for authorities row.kind row.member)
      ∙ ap (λ f. filter_map f (voters_for authorities row.kind row.member)) (λ i voter. way_at (not_proxy row.kind (instructed_way resolution share voter) i) (vote_pieces casts last capacity voter) place))
      ∙ ap (λ v. first_that_applies (common_way (filter_map (cast capacity) (voters_for authorities row.kind row.member)) ∷ Some v ∷ [])) (by_place by place)
      ∙ sym (rules cast authorities row.kind row.member (option_and_then (λ (a : Appointment). option_map (vote_if (instructed_on resolution a.instructions)) (cast Proxy a.proxy)) governing) vote (flat governing place share))
      ∙ ap (λ o. valid_vote (cast_among casts last resolution (share_by o place)) authorities resolution row o) (governed_from governed 1 place are.tiled are.governed low high)

  -- ---- places that are not parted vote alike

  -- the covers of casts hold a place as they hold another
  abbrev AreAlike : ℕ → ℕ → Cover → Type 0
  AreAlike place other cover = holds cover.0 place ≡ holds cover.0 other

  abbrev HoldAlike : ℕ → ℕ → BlockCast → Type 0
  HoldAlike place other c = holds c.block.range place ≡ holds c.block.range other

  cover_alike : (place other : ℕ) (c : BlockCast) (b : Bool) (covers : List Cover) → HoldAlike place other c → All (AreAlike place other) covers
      → All (AreAlike place other) (cons_option (cond b (Some (c.block.range, way_number c.block.way)) None) covers)
  cover_alike place other c true covers one rest = All-cons (AreAlike place other) (c.block.range, way_number c.block.way) covers one rest
  cover_alike place other c false covers one rest = rest

  blocks_alike : (place other : ℕ) (capacity : Capacity) (voter : List ℕ) (blocks : List BlockCast) → All (HoldAlike place other) blocks → All (AreAlike place other) (filter_map (cover_of capacity voter) blocks)
  blocks_alike place other capacity voter [] all = All-nil (AreAlike place other)
  blocks_alike place other capacity voter (c ∷ blocks) all =
      cover_alike place other c (same_capacity c.block.capacity capacity && same_name c.voter voter) (filter_map (cover_of capacity voter) blocks)
      (All-head (HoldAlike place other) c blocks all) (blocks_alike place other capacity voter blocks (All-tail (HoldAlike place other) c blocks all))

  covers_alike : (place other : ℕ) (capacity : Capacity) (voter : List ℕ) (at : Option ℕ) → is_place place ≡ true → is_place other ≡ true → All (HoldAlike place other) casts
      → All (AreAlike place other) (vote_covers capacity voter casts at)
  covers_alike place other capacity voter None one two all = blocks_alike place other capacity voter casts all
  covers_alike place other capacity voter (Some order) one two all =
      let earlier = filter_map (cover_of capacity voter) (filter (is_before order) casts) in
      let later = filter_map (cover_of capacity voter) (filter (is_after order) casts) in
      All-append (AreAlike place other) (earlier ++ whole_cover ∷ []) later
      (All-append (AreAlike place other) earlier (whole_cover ∷ [])
      (blocks_alike place other capacity voter (filter (is_before order) casts) (All-filter (is_before order) (HoldAlike place other) casts all))
      (All-cons (AreAlike place other) whole_cover [] (one ∙ sym two) (All-nil (AreAlike place other))))
      (blocks_alike place other capacity voter (filter (is_after order) casts) (All-filter (is_after order) (HoldAlike place other) casts all))

  way_alike : (instructed : Option Way) (capacity : Capacity) (voter : List ℕ) (place other : ℕ) → is_place place ≡ true → is_place other ≡ true → All (HoldAlike place other) casts
      → way_at instructed (vote_pieces casts last capacity voter) place ≡ way_at instructed (vote_pieces casts last capacity voter) other
  way_alike instructed capacity voter place other one two all =
      let covers = vote_covers capacity voter casts (last voter) in
      ap (find_map (way_tagged instructed)) (tags_at-place covers place one)
      ∙ way_of_covers instructed covers place
      ∙ find_map-agree (cover_way instructed place) (cover_way instructed other) (reverse covers)
      (All-weaker (AreAlike place other) (λ (c : Cover). cover_way instructed place c ≡ cover_way instructed other c) (λ c same. ap (λ b. cond b (way_tagged instructed c.1) None) same) (reverse covers)
      (All-reverse (AreAlike place other) covers (covers_alike place other capacity voter (last voter) one two all)))
      ∙ sym (way_of_covers instructed covers other)
      ∙ sym (ap (find_map (way_tagged instructed)) (tags_at-place covers other two))

  pieces_alike : (place other : ℕ) (pieces : List GovernedPiece) (rest : List Cover) → All (AreAlike place other) (map (λ (piece : GovernedPiece). (piece.range, 4)) pieces ++ rest)
      → All (λ (piece : GovernedPiece). holds piece.range place ≡ holds piece.range other) pieces
  pieces_alike place other [] rest all = All-nil (λ (piece : GovernedPiece). holds piece.range place ≡ holds piece.range other)
  pieces_alike place other (piece ∷ pieces) rest all =
      let covers = map (λ (p : GovernedPiece). (p.range, 4)) pieces ++ rest in
      All-cons (λ (p : GovernedPiece). holds p.range place ≡ holds p.range other) piece pieces
      (All-head (AreAlike place other) (piece.range, 4) covers all) (pieces_alike place other pieces rest (All-tail (AreAlike place other) (piece.range, 4) covers all))

  rest_alike : (place other : ℕ) (pieces : List GovernedPiece) (rest : List Cover) → All (AreAlike place other) (map (λ (piece : GovernedPiece). (piece.range, 4)) pieces ++ rest) → All (AreAlike place other) rest
  rest_alike place other [] rest all = all
  rest_alike place other (piece ∷ pieces) rest all = rest_alike place other pieces rest (All-tail (AreAlike place other) (piece.range, 4) (map (λ (p : GovernedPiece). (p.range, 4)) pieces ++ rest) all)

  ranges_alike : (place other : ℕ) (blocks : List BlockCast) → All (AreAlike place other) (map (λ (c : BlockCast). (c.block.range, 4)) blocks) → All (HoldAlike place other) blocks
  ranges_alike place other [] all = All-nil (HoldAlike place other)
  ranges_alike place other (c ∷ blocks) all =
      let covers = map (λ (b : BlockCast). (b.block.range, 4)) blocks in
      All-cons (HoldAlike place other) c blocks (All-head (AreAlike place other) (c.block.range, 4) covers all) (ranges_alike place other blocks (All-tail (AreAlike place other) (c.block.range, 4) covers all))

  governing_alike : (place other : ℕ) → ArePieces cutoffs holding governed → 1 ≤ place → place ≤ holding.shares → 1 ≤ other → other ≤ holding.shares
      → All (λ (piece : GovernedPiece). holds piece.range place ≡ holds piece.range other) governed → governing_in cutoffs holding place ≡ governing_in cutoffs holding other
  governing_alike place other are low high first end all =
      sym (governed_from governed 1 place are.tiled are.governed low high)
      ∙ ap (λ found. option_and_then (slice_get holding.appointed) (option_and_then (λ (piece : GovernedPiece). piece.by) found))
      (find-agree (λ (piece : GovernedPiece). holds piece.range place) (λ (piece : GovernedPiece). holds piece.range other) governed all)
      ∙ governed_from governed 1 other are.tiled are.governed first end

  place_is : (place : ℕ) → holding.shares ≤ MOST_PLACES → 1 ≤ place → place ≤ holding.shares → is_place place ≡ true
  place_is place few low high = and_from (nat_le 1 place) (nat_le place MOST_PLACES) (le-leb 1 place low) (le-leb place MOST_PLACES (omega arith))

  -- two places that each piece and each cast hold alike have one vote
  pub votes_alike : (place other : ℕ) → ArePieces cutoffs holding governed → holding.shares ≤ MOST_PLACES → 1 ≤ place → place ≤ holding.shares → 1 ≤ other → other ≤ holding.shares
      → All (AreAlike place other) (cuts_of governed casts) → meant_vote place ≡ meant_vote other
  votes_alike place other are few low high first end all =
      let blocks = map (λ (c : BlockCast). (c.block.range, 4)) casts in
      let held = ranges_alike place other casts (rest_alike place other governed blocks all) in
      let one = place_is place few low high in
      let two = place_is other few first end in
      let governing = governing_in cutoffs holding other in
      ap (λ o. valid_vote (cast_among casts last resolution (share_by o place)) authorities resolution row o) (governing_alike place other are low high first end (pieces_alike place other governed blocks all))
      ∙ ap (λ (cast : Casts). valid_vote cast authorities resolution row governing)
      (λ i capacity voter. way_alike (as_proxy capacity (instructed_way resolution (share_by governing other) voter)) capacity voter place other one two held i)
