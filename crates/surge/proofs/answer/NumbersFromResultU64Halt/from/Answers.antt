-- The numbers of each case of an answer, by the paper's number and values. Assumes nothing.
use Rattle.std.proofs.Common.{◌≡◌, refl, rules, Err}
use Rattle.surge.specs.declared.answer.Halt.TheVariants.{Refused, NotFinite, Parted}
use Rattle.surge.specs.Answers.{paper_answer}
use Rattle.surge.proofs.answer.NumbersFromResultU64Halt.from.Goals as goal

pub returns-in-Ok : goal.returns-in-Ok
unfolding paper_answer
returns-in-Ok c = rw c.in-Ok.is (refl, refl, refl)

pub returns-in-Err-Refused : goal.returns-in-Err-Refused
unfolding paper_answer
returns-in-Err-Refused c = let is : c.args.answer ≡ Err (Refused c.in-Err-Refused.question) = search rules in rw is (c.number.ensures, refl, refl)

pub returns-in-Err-NotFinite : goal.returns-in-Err-NotFinite
unfolding paper_answer
returns-in-Err-NotFinite c =
    let is : c.args.answer ≡ Err (NotFinite c.in-Err-NotFinite.steps c.in-Err-NotFinite.section) = search rules in rw is (refl, refl, refl)

pub returns-in-Err-Parted : goal.returns-in-Err-Parted
unfolding paper_answer
returns-in-Err-Parted c =
    let is : c.args.answer ≡ Err (Parted c.in-Err-Parted.steps c.in-Err-Parted.section) = search rules in rw is (refl, refl, refl)
