use Rattle.std.proofs.Common.{◌≡◌, ◌+◌, ◌∙◌, Some, ap, rules, arith, subst}
use Rattle.rb_trim.specs.inner.Moving.{IsName, IsReached}
use Rattle.rb_trim.proofs.Fitting.{item_is}
use Rattle.rb_trim.proofs.Slots.{unread_behind}
use Rattle.rb_trim.proofs.giving.copied_to.Goals as goal

pub returns : goal.returns
returns c =
    let h = c.args.hints.now in
    let at = c.args.at in
    let from = c.in-Some-Copy.from in
    let behind : c.in-Some.behind ≡ at + 1 = search rules in
    let e : c.in_ok-same.same ≡ c.in_ok-new.new = omega arith in
    record {
      from = from;
      stands = item_is c.args.body.now at c.in-Some-Copy.field-0.now c.in-Some-Copy.ensures.lookup.3.0 c.in-Some-Copy.ensures.lookup.1 ∙ ap Some c.in-Some-Copy.field-0-is;
      name = c.in_ok-new.new;
      own = c.in_ok-new.ensures;
      same = subst (λ fs. IsName h fs at from c.in_ok-new.new) c.known_at.ensures (subst (λ n. IsName h c.known_at.result.now at from n) e c.in_ok-same.ensures);
      unread = record { by = unread_behind h at c.args.slot c.in-Some.behind c.is_read.result behind c.is_read.ensures (search rules) };
      comes = subst (λ n. IsReached h n) behind (c.is_reached.ensures.0 (search rules));
    }
