use Rattle.std.proofs.Common.{rules}
use Rattle.rb_command.specs.Command.{image}
use Rattle.rb_command.proofs.command.parse_image.Goals as goal

pub returns-in_err-file : goal.returns-in_err-file
returns-in_err-file c = let known = c.in_err-file.ensures image in search rules
