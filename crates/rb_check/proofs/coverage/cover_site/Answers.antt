use Rattle.std.proofs.Common.{◌<◌, ◌^◌, map, refl, sym, subst}
use Rattle.std.specs.List.{All}
use Rattle.rb_core.specs.Coverage.{note_at}
use Rattle.rb_check.proofs.CoverLemmas.{clauses-short, unreached-are}
use Rattle.rb_check.proofs.coverage.cover_site.Goals as goal

pub add_notes-requires : goal.add_notes-requires
add_notes-requires c =
    subst (All (λ i. i < 2 ^ 32)) (sym c.as_slice-2.ensures.value)
    (clauses-short c.args.types.now c.args.site.now c.in_ok-clauses.clauses.items c.requires.numbered (rw c.as_slice.ensures at c.in_ok-clauses.ensures))

pub returns-clause-covered : goal.returns-clause-covered
returns-clause-covered c = record {
  exhaustive = c.in_ok-exhaust_site.ensures.exhaustive;
  here = map (note_at c.args.site.now.at) c.in_ok-clauses.clauses.items;
  added = rw c.as_slice-2.ensures.value at c.in_ok-add_notes.ensures;
  exact = record {
    clauses = c.in_ok-clauses.clauses.items;
    unreached = unreached-are c.args.types.now c.args.site.now c.in_ok-clauses.clauses.items (rw c.as_slice.ensures at c.in_ok-clauses.ensures);
    named = refl;
  };
}
