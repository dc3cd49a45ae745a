use Rattle.std.proofs.Common.{◌≡◌, ◌∙◌, Some, length, sym, ap, refl, arith, subst}
use Rattle.std.specs.Prelude.{slice_get}
use Rattle.std.proofs.lemmas.Option.{slice_get_past, slice_get_read}
use Rattle.rb_core.specs.declared.pattern.Pat as Pats
use Rattle.rb_core.specs.Values.{fields_in, fields_of_con}
use Rattle.rb_matrix.specs.inner.Signature.{IsConAnswer}
use Rattle.rb_matrix.specs.Specialize.{wilds}
use Rattle.rb_matrix.proofs.Inhabited.{con-count}
use Rattle.rb_matrix.proofs.Absent.{no-type, cons-all, con-absent, fields-live}
use Rattle.rb_matrix.proofs.signature.absent_con.Goals as goal

pub returns-then-t-types-clause-answer : goal.returns-then-t-types-clause-answer
returns-then-t-types-clause-answer c = λ v of. absurd (no-type c.args.types.now c.args.t (slice_get_past _ _ c.if-t-types.true) v of)

pub missing_con-requires : goal.missing_con-requires
missing_con-requires c =
    let decl : slice_get c.args.types.now c.args.t ≡ Some c.index-types-t.result = slice_get_read c.args.types.now _ c.args.t c.index-types-t.result refl (omega arith) c.index-types-t.is in
    let small = con-count c.args.types.now c.requires _ _ decl in let len = ap (λ l. length l) c.as_slice-cons.ensures in omega (arith, small, len)

pub returns-in-None-clause-answer : goal.returns-in-None-clause-answer
returns-in-None-clause-answer c =
    let decl : slice_get c.args.types.now c.args.t ≡ Some c.index-types-t.result = slice_get_read c.args.types.now _ c.args.t c.index-types-t.result refl (omega arith) c.index-types-t.is in
    let len = ap (λ l. length l) c.as_slice-cons.ensures in
    let all = subst (IsConAnswer c.args.heads.now (length c.as_slice-cons.result.now)) c.in-None.is c.in_ok-missing.ensures in
    cons-all c.args.types.now c.args.t _ c.args.heads.now decl (λ k lt. all k (omega (arith, lt, len)))

pub returns-in_ok-pats-in-Some-clause-answer : goal.returns-in_ok-pats-in-Some-clause-answer
returns-in_ok-pats-in-Some-clause-answer c =
    let first = subst (IsConAnswer c.args.heads.now (length c.as_slice-cons.result.now)) c.in-Some.is c.in_ok-missing.ensures in
    let decl : slice_get c.args.types.now c.args.t ≡ Some c.index-types-t.result = slice_get_read c.args.types.now _ c.args.t c.index-types-t.result refl (omega arith) c.index-types-t.is in
    let con : slice_get c.as_slice-cons.result.now c.in-Some.con ≡ Some c.index-cons-con.result = slice_get_read c.as_slice-cons.result.now _ c.in-Some.con c.index-cons-con.result refl first.0 c.index-cons-con.is in
    let fields = ap (λ d. fields_in d c.in-Some.con) decl ∙ ap (λ l. fields_of_con (slice_get l c.in-Some.con)) (sym c.as_slice-cons.ensures) ∙ ap fields_of_con con in
    con-absent c.args.types.now c.args.t c.in-Some.con c.index-cons-con.result.fields c.args.heads.now fields c.requires
    (fields-live c.args.types.now c.requires c.args.t c.in-Some.con c.index-cons-con.result.fields fields) first.1.out _ c.in_ok-pats-in-Some.pats refl
    (c.in_ok-pats-in-Some.ensures ∙ ap wilds c.len.ensures)

pub returns-in_ok-pats-in-Some-clause-first : goal.returns-in_ok-pats-in-Some-clause-first
returns-in_ok-pats-in-Some-clause-first c =
    let first = subst (IsConAnswer c.args.heads.now (length c.as_slice-cons.result.now)) c.in-Some.is c.in_ok-missing.ensures in
    let decl : slice_get c.args.types.now c.args.t ≡ Some c.index-types-t.result = slice_get_read c.args.types.now _ c.args.t c.index-types-t.result refl (omega arith) c.index-types-t.is in
    let con : slice_get c.as_slice-cons.result.now c.in-Some.con ≡ Some c.index-cons-con.result = slice_get_read c.as_slice-cons.result.now _ c.in-Some.con c.index-cons-con.result refl first.0 c.index-cons-con.is in
    let fields = ap (λ d. fields_in d c.in-Some.con) decl ∙ ap (λ l. fields_of_con (slice_get l c.in-Some.con)) (sym c.as_slice-cons.ensures) ∙ ap fields_of_con con in
    let row = c.in_ok-pats-in-Some.ensures ∙ ap wilds c.len.ensures in (
      c.in-Some.con,
      c.index-cons-con.result.fields,
      fields,
      ap (Pats.Con 0 (record { ty = c.args.t; con = c.in-Some.con })) row,
      first.1,
    )
