use Rattle.std.proofs.Common.{◌≡◌, ℕ, ◌+◌, ap, arith, length, refl, ◌∙◌}
use Rattle.std.specs.Prelude.{nat_le}
use Rattle.share_blocks.specs.declared.tag.TheConstants.{MOST_TAGS}
use Rattle.proxy_rules.proofs.ClaimLemmas.{tags_few}
use Rattle.proxy_rules.proofs.claims.are_few.Goals as goal

pub returns : goal.returns
returns c =
    let given = c.args.appointed.now in
    ap (λ (m : ℕ). nat_le m MOST_TAGS) (from_none (length given)) ∙ tags_few 0 given c.requires refl
  where
    from_none : (m : ℕ) → m ≡ 0 + m
    from_none m = omega arith
