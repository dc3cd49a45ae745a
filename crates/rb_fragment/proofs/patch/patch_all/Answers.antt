use Rattle.std.proofs.Common.{◌+◌, None, ap, subst, ◌∙◌, drop}
use Rattle.rb_target.specs.declared.body.Hole.{Hole}
use Rattle.rb_fragment.specs.Arms.{with_targets, ArePatchable}
use Rattle.rb_fragment.proofs.Moves.{drop_item}
use Rattle.rb_fragment.proofs.Patching.{patchable_patched}
use Rattle.rb_fragment.proofs.Matches.{patch_step}
use Rattle.rb_fragment.proofs.patch.patch_all.Goals as goal

pub loop-hole-preserved : goal.loop-hole-preserved
loop-hole-preserved c =
    let none : Hole = record { pc = 0; arm = None; leaf = 0 } in
    let item = drop_item c.args.holes.now c.loop-hole.hole-index none c.loop-hole-test.true in
    let rest = drop (c.loop-hole.hole-index + 1) c.args.holes.now in
    let inv = c.loop-hole.invariant in
    let patchable = subst (λ hs. ArePatchable c.loop-hole.body.code hs c.args.targets.now) item inv.patchable in
    record {
      same = inv.same ∙ ap (λ hs. with_targets c.loop-hole.body hs c.args.targets.now) item ∙ patch_step c.loop-hole.body c.patch.new.self _ _ rest c.args.targets.now c.patch.ensures c.target_of-target.ensures;
      patchable = rw c.patch.ensures (patchable_patched c.loop-hole.body _ _ rest c.args.targets.now patchable.3);
    }
