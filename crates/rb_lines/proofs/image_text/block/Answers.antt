use Rattle.std.proofs.Common.{◌≡◌, ◌++◌, List, append_assoc, ap, sym, ◌∙◌, refl, subst, codes, IfOk, Vec, Global, ℕ}
use Rattle.std.specs.Fmt.{decimal}
use Rattle.rb_image_text.specs.MemoryImages.{block_over, bytes_over}
use Rattle.rb_image_text.specs.Text.{block_text, bytes_text}
use Rattle.rb_show.specs.Lines.{line}
use Rattle.rb_lines.proofs.ImageTexts.{length-bytes_over}
use Rattle.rb_lines.proofs.image_text.block.Goals as goal

pub returns : goal.returns
returns c =
    let m = c.args.memory.now in
    let at = c.args.address in
    let bytes = bytes_text (bytes_over m at c.args.size) in
    let head = ap (λ (v : Vec ℕ Global). v.items) c.into_bytes-text.ensures.value ∙ c.in_ok-format.ensures.ok in
    let flat : line ((codes "block " ++ (decimal at ++ (codes " " ++ (decimal c.args.size ++ codes " ")))) ++ bytes)
    ≡ codes "block " ++ (decimal at ++ (codes " " ++ (decimal c.args.size ++ (codes " " ++ (bytes ++ codes "\n"))))) = simp append_assoc refl in
    let sized : codes "block " ++ (decimal at ++ (codes " " ++ (decimal c.args.size ++ (codes " " ++ (bytes ++ codes "\n"))))) ≡ block_text (block_over m (at, c.args.size)) =
    ap (λ n. codes "block " ++ (decimal at ++ (codes " " ++ (decimal n ++ (codes " " ++ (bytes ++ codes "\n")))))) (sym (length-bytes_over m at c.args.size)) in
    let whole = ap (λ t. line t) (c.in_ok-push_bytes.ensures ∙ ap (λ t. t ++ bytes) head) ∙ flat ∙ sized in
    subst (λ (t : List ℕ). IfOk c.end.result (λ text. text.items ≡ t)) whole c.end.ensures
