use Rattle.rb_accept.proofs.accepting.add_layouts.Goals as goal

pub returns-clause-named : goal.returns-clause-named
returns-clause-named c = record {
  file = c.args.file.now;
  read = c.requires.read;
  written = c.args.program;
  named = c.requires.named;
  completed = c.in_ok-completed.ensures.completed;
}
