use Rattle.loaded.proofs.LoadedWords.{loaded}
use Rattle.loaded.proofs.load.Goals as goal

pub returns : goal.returns
returns c =
    let header = c.header_of-header.ensures in
    loaded c.args.image.now _ c.requires.size header.its_rules header.its_start c.rule_at-body.ensures.its_root c.link_words.ensures
