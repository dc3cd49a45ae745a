-- Positions in leaves as the code carries them: a view borrows the words of the leaf; an arrival is a position to
-- which one came, and its source has the words of the leaf, lent or its own. A position is what a leaf's provenance,
-- its pattern, has at a path, a list of field numbers from its root.
use Rattle.std.specs.Prelude.{List, ◌++◌, Option, Some, None, Result, Ok}
use Rattle.rb_layout.specs.declared.layout.Leaf.{Leaf}
use Rattle.rb_layout.specs.Readable.{IsReadable}
use Rattle.rb_image_text.specs.declared.fault.ImageFault.{ImageFault}
use Rattle.rb_image_text.specs.declared.image.ImageBlock.{ImageBlock}
use Rattle.rb_image.specs.declared.leaf_words.LeafWords.{LeafWords}
use Rattle.rb_image.specs.Fields.{position_of}
use Rattle.rb_image.specs.LeafWords.{HasNumbers}
use Rattle.rb_image.specs.Splits.{and_then}
use Rattle.rb_peek.specs.declared.arrival.Arrival.{Arrival}
use Rattle.rb_peek.specs.declared.arrival.Source.{Source}
use Rattle.rb_peek.specs.declared.arrival.Source.TheVariants.{Lent, Own}
use Rattle.rb_peek.specs.declared.pack.FieldWords.{FieldWords}
use Rattle.rb_peek.specs.declared.view.View.{View}
use Rattle.rb_peek.specs.Rebuilds.{or_fault_before}
use Rattle.rb_peek.specs.Views.{LeafPosition}

-- the position that a view has
abbrev pub position_shown : View → LeafPosition
position_shown v = record {
  leaf = v.leaf.now;
  root = v.words.now.root.items;
  addresses = v.words.now.addresses.items;
  at = v.at.now;
  here = position_of v.here;
}

-- the position that a view has, where there is a view
abbrev pub shown_option : Option View → Option LeafPosition
shown_option None = None
shown_option (Some v) = Some (position_shown v)

-- the leaf of view v has few and short words, and the words of its blocks were read in m
pub record IsShown (m : List ImageBlock) (v : View) : Type 0 where
  pub readable : IsReadable v.leaf.now
  pub numbers : HasNumbers m v.leaf.now v.words.now

-- the words of a leaf that a source has, be they lent or its own
abbrev pub source_words : Source → LeafWords
source_words (Lent words) = words.now
source_words (Own words) = words

-- the position to which an arrival has come
abbrev pub come_to : Arrival → LeafPosition
come_to x = record {
  leaf = x.leaf.now;
  root = (source_words x.source).root.items;
  addresses = (source_words x.source).addresses.items;
  at = x.at;
  here = position_of x.here;
}

-- the leaf to which arrival x has come has few and short words, and the words of its blocks were read in m
pub record IsArrival (m : List ImageBlock) (x : Arrival) : Type 0 where
  pub readable : IsReadable x.leaf.now
  pub numbers : HasNumbers m x.leaf.now (source_words x.source)

-- the fault that came before, or this one where none did
abbrev pub first_fault : Option ImageFault → ImageFault → Option ImageFault
first_fault None fault = Some fault
first_fault (Some before) fault = Some before

-- what was found, but where no leaf was and a fault came before, that fault
abbrev pub or_before : Option ImageFault → Result Leaf ImageFault → Result Leaf ImageFault
or_before None found = found
or_before (Some fault) found = or_fault_before fault found

-- these fields, and behind them those that were found, or the fault that was
abbrev pub with_fields : List FieldWords → Result (List FieldWords) ImageFault → Result (List FieldWords) ImageFault
with_fields fields found = and_then found (λ more. Ok (fields ++ more))
