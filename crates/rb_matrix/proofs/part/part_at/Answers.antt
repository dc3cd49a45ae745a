use Rattle.std.proofs.Common.{◌+◌, ◌∷◌, ◌++◌, [], List, length, refl, sym, ap, ◌∙◌, arith}
use Rattle.std.proofs.lemmas.List.{length-append}
use Rattle.std.specs.Option.{option_copied}
use Rattle.rb_matrix.specs.declared.problem.Step.{Step}
use Rattle.rb_matrix.specs.Specialize.{special}
use Rattle.rb_matrix.specs.inner.Groups.{merge_of, near, rows_at}
use Rattle.rb_matrix.specs.inner.Open.{any_open}
use Rattle.rb_matrix.specs.inner.Problems.{with_column}
use Rattle.rb_matrix.proofs.OpenParts.{part-open}
use Rattle.rb_matrix.proofs.Parts.{no-fields}
use Rattle.rb_matrix.proofs.Splits.{part-gone, part-at}
use Rattle.rb_matrix.proofs.part.part_at.Goals as goal

pub returns-in_default : goal.returns-in_default
returns-in_default c =
    no-fields c.args.types.now c.args.ty c.args.head c.args.behind.now.tys c.args.behind.now.wanted c.args.behind.now.unwanted
    (sym c.head_fields.ensures ∙ ap option_copied c.in_default.is)

pub returns-then-len : goal.returns-then-len
returns-then-len c =
    let at = sym c.head_fields.ensures ∙ ap option_copied c.in-Some.is in
    let w = c.in_ok-wanted.ensures ∙ ap (special c.args.head (length c.in-Some.fields.now)) c.as_slice.ensures in
    part-gone c.args.types.now c.args.ty c.args.behind.now.tys (with_column c.args.ty c.args.behind.now) refl c.args.head c.in-Some.fields.now at c.in_ok-wanted.wanted w (omega arith)

pub returns-then-branch : goal.returns-then-branch
returns-then-branch c =
    let at = sym c.head_fields.ensures ∙ ap option_copied c.in-Some.is in
    let n = length c.in-Some.fields.now in
    let ns = merge_of c.alone.result.ones.now c.alone.result.others.now in
    let ts = c.args.behind.now.tys in
    let columns = c.len-3.ensures ∙ ap (λ l. length l) c.in_ok-tys.ensures ∙ length-append c.in-Some.fields.now ts in
    let covers = ap (λ rows. any_open (special c.args.head n (rows_at rows ns)) (n + length ts)) (sym c.as_slice-rows.ensures)
    ∙ ap (λ k. any_open (special c.args.head n (rows_at c.as_slice-rows.result.now ns)) k) (sym columns)
    ∙ sym c.in_ok-some_special_is_open.ensures ∙ c.if-branch.true in
    part-open c.args.types.now c.args.ty ts (with_column c.args.ty c.args.behind.now) c.args.head c.in-Some.fields.now at ns covers

pub returns : goal.returns
returns c =
    let at = sym c.head_fields.ensures ∙ ap option_copied c.in-Some.is in
    let w = c.in_ok-wanted.ensures ∙ ap (special c.args.head (length c.in-Some.fields.now)) c.as_slice.ensures in
    let n = length c.in-Some.fields.now in
    let u = c.in_ok-unwanted.ensures ∙ ap (λ rows. special c.args.head n (rows_at rows (merge_of c.near.result.ones.now c.near.result.others.now))) c.as_slice-rows.ensures
    ∙ ap (λ ns. special c.args.head n (rows_at c.args.behind.now.unwanted ns)) (c.near.ensures ∙ ap (near c.args.groups.now) c.key_of_head-key.ensures)
    ∙ c.requires.grouped c.args.head n in
    let s = c.in_ok-steps.ensures ∙ ap (λ (l : List Step). l ++ c.step_for-step.result ∷ []) c.as_slice-2.ensures
    ∙ ap (λ (x : Step). c.args.behind.now.steps ++ x ∷ []) c.step_for-step.ensures in
    part-at c.args.types.now c.args.ty c.args.behind.now.tys (with_column c.args.ty c.args.behind.now) refl c.args.head c.in-Some.fields.now at
    (record { tys = c.in_ok-tys.tys; wanted = c.in_ok-wanted.wanted; unwanted = c.in_ok-unwanted.unwanted; steps = c.in_ok-steps.steps })
    c.in_ok-tys.ensures w u (omega arith) c.requires.inhabited c.requires.lives c.requires.stands s
