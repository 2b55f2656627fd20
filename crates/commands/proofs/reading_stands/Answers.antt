use Rattle.std.proofs.Common.{refl}
use Rattle.commands.proofs.Reading.{reads_back, one_reading}
use Rattle.commands.proofs.reading_stands.Goals as goal

pub returns : goal.returns
returns c = record { back = reads_back; single = one_reading; answer = refl }
