use Rattle.std.proofs.Common.{ap, subst, sym, ◌∙◌, arith}
use Rattle.std.specs.Prelude.{sum_by}
use Rattle.proxy_rules.specs.Holdings.{IsValidHolding}
use Rattle.proxy_rules.specs.Tiles.{ArePieces, shares_if}
use Rattle.proxy_rules.specs.declared.holdings.Holding.{Holding}
use Rattle.proxy_rules.proofs.ProxyValidLemmas.{valid_by}
use Rattle.proxy_rules.proofs.ShareLemmas.{shares_of-le}
use Rattle.poll_rules.specs.Acting.{is_one_of}
use Rattle.poll_rules.specs.Demands.{names_one}
use Rattle.poll_rules.proofs.PollDemandLemmas.{all_demand, demanding-le, pieces_demand}
use Rattle.poll_rules.proofs.demand.demanding.Goals as goal

pub returns-then-branch : goal.returns-then-branch
returns-then-branch c =
    let papers = c.args.papers.now in
    c.shares.ensures
    ∙ all_demand (is_one_of c.args.demanders.now) c.args.cutoffs.now papers.appointments.now papers.endings.now papers.authorities.now c.args.row.now (sym c.in_ok-holder_demands.ensures ∙ c.if-branch.true)

pub pieces-requires : goal.pieces-requires
pieces-requires c =
    let papers = c.args.papers.now in
    subst (λ (h : Holding). IsValidHolding h) (sym c.in_ok-holding.ensures) (valid_by papers.appointments.now papers.endings.now c.args.row.now c.requires.numbered c.requires.tags c.requires.few)

pub shares_of_demanders-requires : goal.shares_of_demanders-requires
shares_of_demanders-requires c =
    let papers = c.args.papers.now in
    let cutoffs = c.args.cutoffs.now in
    let row = c.args.row.now in
    let demanded = is_one_of c.args.demanders.now in
    let pieces = c.in_ok-pieces.pieces.items in
    let sum = ap (sum_by (shares_if (names_one demanded) c.in_ok-holding.holding)) c.as_slice.ensures.value
    ∙ ap (λ (h : Holding). sum_by (shares_if (names_one demanded) h) pieces) c.in_ok-holding.ensures
    ∙ pieces_demand demanded cutoffs papers.appointments.now papers.endings.now papers.authorities.now row pieces (sym c.in_ok-holder_demands.ensures ∙ c.if-branch.false)
    (subst (λ (h : Holding). ArePieces cutoffs h pieces) c.in_ok-holding.ensures c.in_ok-pieces.ensures) in
    omega (arith, c.requires.few, shares_of-le row, demanding-le demanded cutoffs papers.appointments.now papers.endings.now papers.authorities.now row, sum)

pub returns : goal.returns
returns c =
    let papers = c.args.papers.now in
    let cutoffs = c.args.cutoffs.now in
    let demanded = is_one_of c.args.demanders.now in
    let pieces = c.in_ok-pieces.pieces.items in
    c.shares_of_demanders.ensures
    ∙ ap (sum_by (shares_if (names_one demanded) c.in_ok-holding.holding)) c.as_slice.ensures.value
    ∙ ap (λ (h : Holding). sum_by (shares_if (names_one demanded) h) pieces) c.in_ok-holding.ensures
    ∙ pieces_demand demanded cutoffs papers.appointments.now papers.endings.now papers.authorities.now c.args.row.now pieces (sym c.in_ok-holder_demands.ensures ∙ c.if-branch.false)
    (subst (λ (h : Holding). ArePieces cutoffs h pieces) c.in_ok-holding.ensures c.in_ok-pieces.ensures)
