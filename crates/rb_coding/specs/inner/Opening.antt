-- A value of a data type that is opened, that is, whose words are taken apart: the words of its fields, and what it
-- comes to. Its provenance is the pattern that the leaf of its words has in the layout; a step is one thing to do for
-- its value. A path is a list of field numbers, outermost first.
use Rattle.std.specs.Prelude.{ℕ, List}
use Rattle.rb_core.specs.declared.pattern.Pat.{Pat}
use Rattle.rb_coding.specs.declared.plan.Opening.{Opening}
use Rattle.rb_coding.specs.inner.Gathering.{field_words}
use Rattle.rb_coding.specs.inner.Planning.{Planned, plan_of}

-- the words of the field at a path of a value that is opened
abbrev pub words_of : Opening → List ℕ → List ℕ
words_of x = field_words x.types.now x.layouts.now x.leaf.now x.words.now x.loaded.now

-- the steps to which a provenance of a value that is opened comes, given a type and a path
abbrev pub steps_of : Opening → Pat → Planned
steps_of x = plan_of x.types.now (words_of x)
