use Rattle.rb_match.proofs.ClauseForms.{clause_tries, others_patchable}
use Rattle.rb_match.proofs.clauses.emit_clause.Goals as goal

pub patch_all-requires : goal.patch_all-requires
patch_all-requires c =
    rw (c.as_slice-3.ensures, c.as_slice-4.ensures, c.in_ok-others.ensures, c.as_slice-2.ensures, c.in_ok-push.ensures.ok, c.new-here.ensures, c.len.ensures.value)
    (others_patchable c.args.agreed.now c.args.ty c.args.words.now c.args.pat.now c.args.number c.args.body.now c.emit_alone.new.body c.in_ok-found.found c.in_ok-found.ensures.holes c.in_ok-found.ensures.ways c.in_ok-found.ensures.grows)

pub returns : goal.returns
returns c = record {
  tries = rw (c.patch_all.ensures, c.in_ok-matched.ensures, c.as_slice.ensures, c.as_slice-3.ensures, c.as_slice-4.ensures, c.in_ok-others.ensures, c.as_slice-2.ensures, c.in_ok-push.ensures.ok, c.new-here.ensures, c.len.ensures.value)
      (clause_tries c.args.agreed.now c.args.ty c.args.words.now c.args.pat.now c.args.number c.args.body.now c.emit_alone.new.body c.in_ok-found.found c.in_ok-found.ensures.holes c.in_ok-found.ensures.ways c.in_ok-found.ensures.grows
      (rw c.covered.ensures.same at c.program-typed.ensures.typed) c.covered.ensures.agree c.layouts-flat.ensures.flat c.in_ok-found.ensures.takes);
}
