use Rattle.std.proofs.Common.{◌≡◌, ◌+◌, rules, arith, refl, subst, ap, ◌∙◌}
use Rattle.rb_trim.specs.inner.Moving.{IsCopied, IsName, place, end}
use Rattle.rb_trim.proofs.giving.into_copy.Goals as goal

pub returns : goal.returns
returns c =
    let h = c.args.hints.now in
    let pc = c.args.pc in
    let behind : c.in-Some.behind ≡ pc + 1 = search rules in
    let at : c.end_at-at.result ≡ end h (pc + 1) = c.end_at-at.ensures ∙ ap (λ n. end h n) behind in
    let next : c.in-Some-checked_add.next ≡ end h (pc + 1) + 1 = omega (arith, at, c.in-Some-checked_add.ensures) in
    let there : c.place_at-there.result ≡ place h (end h (pc + 1) + 1) = c.place_at-there.ensures ∙ ap (λ n. place h n) next in
    record {
      slot = c.in-Load.slot;
      base = c.in-Load.base;
      offset = c.in-Load.offset;
      width = c.in-Load.width;
      to = c.in_ok-to.to;
      to' = c.in_ok-dest.dest;
      base' = c.in_ok-base.base;
      is = search rules;
      stands = refl;
      dest = c.in_ok-dest.ensures;
      name = subst (λ fs. IsName h fs pc c.in-Load.base c.in_ok-base.base) c.known_at.ensures c.in_ok-base.ensures;
      copied = subst (λ n. IsCopied h c.args.body.now n c.in-Load.slot c.in_ok-to.to) at c.in_ok-to.ensures;
      next = omega (arith, there, c.place_at-here.ensures);
    }
