use Rattle.cp_words.proofs.CutWords.{word_cut}
use Rattle.cp_words.proofs.accepted.name_and_value.Goals as goal

pub returns : goal.returns
returns c = word_cut c.args.word.now c.split_once.result c.split_once.ensures.cases
