use Rattle.desk_model.proofs.PlainFacts.{plain_piece}
use Rattle.desk_model.proofs.laws.law_plain_piece.Goals as goal

pub returns : goal.returns
returns c = λ s state statement sound idle formed. plain_piece s state sound idle statement formed
