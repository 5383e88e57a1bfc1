use Rattle.reading.proofs.Standing.{standing}
use Rattle.reading.proofs.reader.Reader.token.Goals as goal

pub returns : goal.returns
returns c = standing c.args.self.now.text.now c.args.at c.token.result c.token.ensures
