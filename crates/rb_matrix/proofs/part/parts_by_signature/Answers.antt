use Rattle.std.proofs.Common.{◌≡◌, ◌∷◌, [], sym, ap, ◌∙◌, subst, arith}
use Rattle.rb_core.specs.declared.value.Value.{Value, out-Value}
use Rattle.rb_core.specs.declared.value.Value.TheOpen.{Value-F}
use Rattle.rb_matrix.specs.declared.problem.Left.{Left}
use Rattle.rb_matrix.specs.declared.problem.Left.TheVariants.{Whole, ByHead}
use Rattle.rb_matrix.specs.Heads.{any_begins, column_begins}
use Rattle.rb_matrix.specs.Signature.{IsAbsentAnswer}
use Rattle.rb_matrix.specs.Counts.{rows_head_count}
use Rattle.rb_matrix.specs.inner.Groups.{AreGrouped}
use Rattle.rb_matrix.specs.inner.Problems.{with_column}
use Rattle.rb_matrix.proofs.Splits.{some-stands}
use Rattle.rb_matrix.proofs.Branches.{all-branches}
use Rattle.rb_matrix.proofs.Working.{split-made}
use Rattle.rb_matrix.proofs.part.parts_by_signature.Goals as goal

pub returns-in-None : goal.returns-in-None
returns-in-None c =
    let types = c.args.types.now in let ty = c.args.ty in let p = c.args.behind in let hs = c.as_slice-2.result.now in
    let branches : Left = ByHead (record { ty = ty; behind = p; heads = c.in_ok-heads.heads; groups = c.in_ok-groups-in-None.groups }) in
    let every = subst (IsAbsentAnswer types ty hs) c.in-None.is c.in_ok-absent_pattern.ensures.answer in
    let same : (l : Value-F Value) → any_begins hs l ≡ column_begins p.unwanted l =
    (λ l. ap (λ hs. any_begins hs l) c.as_slice-2.ensures ∙ c.in_ok-heads.ensures.heads l ∙ ap (λ rows. column_begins rows l) c.as_slice.ensures) in
    let rows = ap rows_head_count c.as_slice.ensures in let few = c.in_ok-heads.ensures.few in
    split-made types (Whole (with_column ty p)) (branches ∷ []) c.branches_left.result c.branches_left.ensures
    (all-branches types ty p c.in_ok-heads.heads c.in_ok-groups-in-None.groups (subst (λ rows. AreGrouped rows c.in_ok-groups-in-None.groups) c.as_slice-in-None.ensures c.in_ok-groups-in-None.ensures) c.requires.lives
    (some-stands types c.requires.inhabited ty p.unwanted hs c.requires.live same every)
    (omega (arith, rows, few))
    (λ v of. ap (λ hs. any_begins hs (out-Value v)) (sym c.as_slice-2.ensures) ∙ every v of))
