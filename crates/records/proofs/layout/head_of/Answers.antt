-- `layout::head_of` meets its contract: each field is the word that was read for it. Assumes nothing.
use Rattle.records.proofs.layout.head_of.Goals as goal

pub returns : goal.returns
returns c = (c.word_at.ensures, c.word_at-2.ensures, c.word_at-3.ensures, c.word_at-4.ensures, c.word_at-5.ensures, c.word_at-6.ensures, c.word_at-7.ensures, c.word_at-8.ensures, c.word_at-9.ensures, c.word_at-10.ensures, c.word_at-11.ensures, c.word_at-12.ensures, c.word_at-13.ensures, c.word_at-14.ensures)
