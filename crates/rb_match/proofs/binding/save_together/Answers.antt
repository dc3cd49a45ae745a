use Rattle.std.proofs.Common.{[], length, refl, subst, arith}
use Rattle.rb_core.specs.declared.types.Ty.TheVariants.{Named}
use Rattle.rb_match.specs.declared.asking.Whole.{Whole}
use Rattle.rb_facts.specs.Knowing.{IsCommonKnowledge}
use Rattle.rb_match.proofs.Landing.{landing_hole}
use Rattle.rb_match.proofs.Nodes.{closed_grows}
use Rattle.rb_match.proofs.Together.{saves_together}
use Rattle.rb_match.proofs.binding.save_together.Goals as goal

pub land-requires : goal.land-requires
land-requires c = λ e i. let s = c.in_ok-edges.ensures.stand.are_open e i in (omega arith, s.1)

pub returns-clause-saves : goal.returns-clause-saves
returns-clause-saves c =
    let common = subst (λ r. IsCommonKnowledge c.in_ok-edges.edges 0 r) c.in-Some.is (rw c.as_slice.ensures at c.in_ok-known.ensures) in
    let graph : Whole = record { ty = Named c.args.con.ty; pats = record { ref_ptr = (0, 0); now = [] }; nodes = record { ref_ptr = (0, 0); now = [] } } in
    rw c.in_ok-_rest.ensures.code (saves_together c.args.agreed.now graph c.args.con c.args.words.now c.args.spots.now c.in-Some.known c.args.body.now c.ask_deep.new.body c.in_ok-edges.edges
    (rw (c.as_slice-reads.ensures, c.in_ok-reads.ensures) at c.in_ok-edges.ensures.asks) refl c.in_ok-edges.ensures.stand common)

pub returns-clause-grows : goal.returns-clause-grows
returns-clause-grows c =
    let b = c.ask_deep.new.body in
    let old = c.args.body.now in
    rw c.in_ok-_rest.ensures.code (closed_grows old b _ _ c.in_ok-edges.ensures.grows (λ h i. (landing_hole b c.in_ok-edges.edges 0 (length old.code) c.in_ok-edges.ensures.stand.are_open h i).0))
