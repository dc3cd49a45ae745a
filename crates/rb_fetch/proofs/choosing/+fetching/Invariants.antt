use Rattle.std.proofs.Common.{◌≡◌, ◌+◌, ◌*◌}
use Rattle.rb_target.specs.Growth.{Grows}
use Rattle.rb_fetch.specs.inner.Choosing.{BranchesDone}
use Rattle.rb_fetch.specs.inner.Rebuilding.{FetchesParts}
use Rattle.rb_fetch.proofs.choosing.+fetching.Given as goal

-- `choose` and `fetch_part` take one off the depth; the others, between them, are ordered by who calls whom.
abbrev pub decreases-choose : goal.decreases-choose
decreases-choose l = l.depth * 5

abbrev pub decreases-fetch_part : goal.decreases-fetch_part
decreases-fetch_part l = l.depth * 5

abbrev pub decreases-fetch_parts : goal.decreases-fetch_parts
decreases-fetch_parts l = l.depth * 5 + 1

abbrev pub decreases-fetch_fields : goal.decreases-fetch_fields
decreases-fetch_fields l = l.depth * 5 + 2

abbrev pub decreases-construct_at : goal.decreases-construct_at
decreases-construct_at l = l.depth * 5 + 1

abbrev pub decreases-choose_under : goal.decreases-choose_under
decreases-choose_under l = l.depth * 5 + 3

abbrev pub decreases-look : goal.decreases-look
decreases-look l = l.depth * 5 + 4

abbrev pub invariant-look-loop-inner : goal.invariant-look-loop-inner
invariant-look-loop-inner l = record {
  done : BranchesDone l.whole.agreed.now l.whole.ty l.whole.leaves.now l.fn.seen l.fn.parts l.part.place.now.path l.part.place.now.con.ty l.part.words.now l.inner l.initial.body l.body l.code.starts l.code.ways;
  parts : l.parts ≡ l.fn.parts;
  seen : l.seen ≡ l.fn.seen;
}

abbrev pub invariant-fetch_parts-loop-j : goal.invariant-fetch_parts-loop-j
invariant-fetch_parts-loop-j l = record {
  grows : Grows l.fn.body.code l.body.code;
  fetches : FetchesParts l.source.agreed.now l.source.ty l.source.leaf l.fn.con l.subs l.j l.path l.source.words.now l.fn.body l.body l.args;
}
