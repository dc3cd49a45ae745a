use Rattle.std.proofs.Common.{◌≡◌, ◌∷◌, ◌++◌, [], length, ℕ, List, ap, ◌∙◌}
use Rattle.rb_fragment.proofs.Matches.{holes_patchable, joins_patchable}
use Rattle.rb_fragment.proofs.patch.close_match.Goals as goal

pub patch_all-requires : goal.patch_all-requires
patch_all-requires c =
    let r = c.requires in
    holes_patchable r.before r.chooser c.args.body.now c.args.holes.now c.args.starts.now r.arms.grows r.holes_are r.arms.starts_from

pub patch_all-requires-2 : goal.patch_all-requires-2
patch_all-requires-2 c =
    let q = c.args.body.now in
    let ends : c.as_slice.result.now ≡ length q.code ∷ [] = c.as_slice.ensures ∙ c.in_ok-push.ensures.ok ∙ ap (λ (l : List ℕ). l ++ c.len.result ∷ []) c.new-ends.ensures ∙ ap (λ n. n ∷ []) c.len.ensures.value in
    rw (c.patch_all.ensures, ends) (joins_patchable (length c.requires.chooser.code) q c.args.holes.now c.args.starts.now c.args.joins.now c.requires.arms.joins_are)
