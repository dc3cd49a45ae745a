use Rattle.rb_command.proofs.Worded.{parsed_words}
use Rattle.rb_command.proofs.command.parse.Goals as goal

pub returns : goal.returns
returns c = parsed_words c.args.words.now c.read_words.result c.read_words.ensures
