use Rattle.std.proofs.Common.{◌≡◌, ◌++◌, take}
use Rattle.std.specs.List.{flat_map}
use Rattle.rb_check.specs.inner.Covering.{argument_sites, body_sites}
use Rattle.rb_check.proofs.sites.+adding.Given as goal

abbrev pub invariant-add_arguments-loop-part : goal.invariant-add_arguments-loop-part
invariant-add_arguments-loop-part l = record {
  scope : l.scope ≡ l.fn.scope;
  added : l.found ≡ l.fn.found ++ argument_sites l.program.types l.program.funs l.fn.scope (take l.part-index l.parts);
}

abbrev pub invariant-add_bodies-loop-clause : goal.invariant-add_bodies-loop-clause
invariant-add_bodies-loop-clause l = record {
  scope : l.scope ≡ l.fn.scope;
  added : l.found ≡ l.fn.found ++ flat_map (body_sites l.program.types l.program.funs l.ty l.fn.scope) (take l.clause-index l.clauses);
}
