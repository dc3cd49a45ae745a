use Rattle.std.proofs.Common.{◌≡◌, List, ◌∙◌, Some, ap, rules, arith, subst}
use Rattle.std.specs.Prelude.{slice_get, All}
use Rattle.rb_target.specs.declared.instr.SwitchArm.{SwitchArm}
use Rattle.rb_target.specs.declared.instr.Instr.TheVariants.{Switch}
use Rattle.rb_trim.specs.inner.Moving.{IsName, IsReached, facts_at, end}
use Rattle.rb_trim.proofs.Fitting.{item_is}
use Rattle.rb_trim.proofs.folding.into_switch.Goals as goal

pub returns : goal.returns
returns c =
    let h = c.args.hints.now in
    let one = c.in-Switch in
    let two = c.in-Some-Switch in
    let word = c.in_ok-word.word in
    let at : c.end_at-at.result ≡ end h c.in-Some.target = c.end_at-at.ensures in
    let e : c.in_ok-same.same ≡ word = omega arith in
    record {
      slot = one.slot;
      target = c.in-Some.target;
      arms = one.arms;
      from = two.from;
      other = two.other;
      more = two.more;
      word = word;
      is = search rules;
      next = subst (λ n. slice_get c.args.body.now n ≡ Some (Switch two.from two.other two.more)) at
          (item_is c.args.body.now c.end_at-at.result two.field-0.now two.ensures.lookup.3.0 two.ensures.lookup.1 ∙ ap Some two.field-0-is);
      stands = search rules;
      name = subst (λ fs. IsName h fs c.args.pc one.slot word) c.known_at.ensures c.in_ok-word.ensures;
      same = subst (λ n. IsName h (facts_at h n) n two.from word) at
          (subst (λ fs. IsName h fs c.end_at-at.result two.from word) c.known_at-2.ensures (subst (λ n. IsName h c.known_at-2.result.now c.end_at-at.result two.from n) e c.in_ok-same.ensures));
      arms_come = subst (λ (arms : List SwitchArm). All (λ (arm : SwitchArm). IsReached h (end h arm.target)) arms) c.as_slice.ensures (c.arms_come.ensures.0 (search rules));
      more_come = subst (λ (arms : List SwitchArm). All (λ (arm : SwitchArm). IsReached h (end h arm.target)) arms) c.as_slice-else-not-arms_come.ensures (c.arms_come-else-not-arms_come.ensures.0 (search rules));
      other_comes = c.other_comes.ensures (search rules);
    }
