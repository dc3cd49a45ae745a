-- What is known of a file that was read, as the resolver of names asks for it.
use Rattle.std.proofs.Common.{◌≤◌, List, ℕ, length, arith}
use Rattle.std.proofs.lemmas.List.{length-map}
use Rattle.rb_core.specs.Limits.{most_file_bytes}
use Rattle.rb_names.specs.Written.{IsReadFile}
use Rattle.rb_syntax.specs.Tokens.{tokens}
use Rattle.rb_syntax.specs.declared.token.Placed.{Placed}
use Rattle.rb_syntax.specs.declared.tree.FileTree.{FileTree}
use Rattle.rb_accept.specs.Accepting.{FileIsRead}
use Rattle.rb_accept.proofs.Counted.{are_counted}
use Rattle.rb_accept.proofs.Named.{cut-named}
use Rattle.rb_accept.proofs.OneCut.{few_tokens}

pub is_written : (bytes : List ℕ) (placed : List Placed) (file : FileTree) → length bytes ≤ most_file_bytes → FileIsRead bytes placed file → IsReadFile (tokens placed) file
is_written bytes placed file few read = record {
  tree = read.tree.0.tree;
  short = (let short = few_tokens bytes placed read.cut in let many = length-map placed (λ (p : Placed). p.token) in omega (arith, few, short, many));
  named = cut-named _ 0 bytes placed read.cut;
  counted = are_counted file.items read.tree.1;
}
