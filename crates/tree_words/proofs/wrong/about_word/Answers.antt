use Rattle.std.proofs.Common.{◌∙◌, ◌++◌, ap, ap₂, codes}
use Rattle.file_tree.specs.Quotes.{shown_name}
use Rattle.tree_words.specs.Vocabularies.{vocabulary_of}
use Rattle.tree_words.specs.WrongWords.{hint_of}
use Rattle.tree_words.proofs.wrong.about_word.Goals as goal

pub returns : goal.returns
returns c =
    let front = c.in_ok-extend_from_slice.ensures.items ∙ ap₂ ◌++◌ c.new-text.ensures.items c.as_bytes-2.ensures.value in
    let shown = c.as_slice.ensures.value ∙ c.in_ok-shown.ensures ∙ ap shown_name c.as_bytes.ensures.value in
    let named = c.in_ok-extend_from_slice-2.ensures.items ∙ ap₂ ◌++◌ front shown in
    let hinted = c.in_ok-push_hint.ensures ∙ ap (λ to. to ++ hint_of (vocabulary_of c.args.of.now) c.args.word.now) named in
    let ended = c.in_ok-extend_from_slice-3.ensures.items ∙ ap (λ to. to ++ codes "\n") hinted in
    c.in_ok-extend_from_slice-4.ensures.items ∙ ap₂ ◌++◌ ended c.as_bytes-3.ensures.value
