use Rattle.theory.proofs.Plays.{arrives}
use Rattle.theory.proofs.plays_arrive.Goals as goal

pub returns : goal.returns
returns c = λ x ok r s rank calls answers p run g done. arrives x r s rank calls answers p run g done
