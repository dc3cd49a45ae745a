use Rattle.rb_core.specs.Coverage.{sites_of}
use Rattle.rb_check.proofs.CoverLemmas.{refused-complete}
use Rattle.rb_check.proofs.SiteTypes.{program-numbered, types-inhabited}
use Rattle.rb_check.proofs.coverage.cover.Goals as goal

pub cover_sites-requires-clause-inhabited : goal.cover_sites-requires-clause-inhabited
cover_sites-requires-clause-inhabited c =
    rw (c.as_slice.ensures, c.program-program.ensures.same) (types-inhabited c.args.typed.now c.program-program.ensures.typed)

pub cover_sites-requires-clause-numbered : goal.cover_sites-requires-clause-numbered
cover_sites-requires-clause-numbered c =
    rw (c.as_slice.ensures, c.as_slice-2.ensures, c.in_ok-sites.ensures, c.program-program.ensures.same) (program-numbered c.args.typed.now c.program-program.ensures.typed)

pub returns-clause-complete : goal.returns-clause-complete
returns-clause-complete c =
    refused-complete c.args.typed.now.types c.cover_sites.result (sites_of c.args.typed.now)
    (rw (c.as_slice.ensures, c.as_slice-2.ensures, c.in_ok-sites.ensures, c.program-program.ensures.same) at c.cover_sites.ensures.refused)
