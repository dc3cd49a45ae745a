-- What is read of the words of a command line, as the definitions see it.
use Rattle.std.specs.Prelude.{ℕ, List}
use Rattle.rb_command.specs.Command.{Command, Limits, IsUsageAt, check, layout, compile, run, image, count, gen, genrun, exec, value, peek}
use Rattle.rb_command.specs.declared.command.Command as declared
use Rattle.rb_command.specs.declared.command.Command.TheVariants as form
use Rattle.rb_command.specs.declared.command.CommandFault.{CommandFault}
use Rattle.rb_command.specs.declared.command.CommandFault.TheVariants as fault
use Rattle.rb_command.specs.declared.limits.Limits as limits

-- the limits that the code holds, as the definition of commands has them
abbrev pub limits_view : limits.Limits → Limits
limits_view l = record { calls = l.calls; region = l.region }

-- the command that the code holds, as the definition of commands has it
abbrev pub command_view : declared.Command → Command
command_view (form.Check file) = check file.now
command_view (form.Layout file) = layout file.now
command_view (form.Compile file) = compile file.now
command_view (form.Run file limits values) = run file.now (limits_view limits) values.now
command_view (form.Image file limits values) = image file.now (limits_view limits) values.now
command_view (form.Count file limits values) = count file.now (limits_view limits) values.now
command_view (form.Gen functions) = gen functions.count
command_view (form.GenRun functions limits) = genrun functions.count (limits_view limits)
command_view (form.Exec code function limits words) = exec code.now function.now (limits_view limits) words
command_view (form.Value file second) = value file.now second.now
command_view (form.Peek file second path) = peek file.now second.now path

-- a fault that may be answered for the words of a command line: the number of the first at fault, where they are no
-- command, or want of memory, which says nothing of them
abbrev pub IsUsage : List (List ℕ) → CommandFault → Type 0
IsUsage words (fault.Usage n) = IsUsageAt words n
IsUsage words fault.Memory = Unit {0}
