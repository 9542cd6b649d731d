-- Question 20, as the code compares the rows' lengths, of n sections, y nodes and p pipes. Assumes nothing.
use mathlib.Core.Path.{◌≡◌, sym}
use mathlib.Core.Bool.{◌&&◌, and_assoc, and-true}
use mathlib.Core.List.{List}
use Prim.Native.Nat.{ℕ, ◌*◌}
use lib.Dec.{leb}
use Rattle.job.specs.Job.{sections}
use Rattle.job.specs.Format.{job_of, pipe_table, node_table, pipe_count, node_count}
use Rattle.job.specs.Questions.{Accepted}
use Rattle.job.proofs.Accepted.{nodes_length}
use Rattle.pipe_layout.proofs.Acceptance.{four_a_pipe}
use Rattle.call_questions.specs.declared.Lengths.{Lengths}
use Rattle.call_questions.specs.Opening.{long_enough}

pub enough_asked :
    (job : List ℕ) → Accepted job → {n y p : ℕ} → n ≡ sections (job_of job) → y ≡ node_count (node_table job) → p ≡ pipe_count (pipe_table job) → (l : Lengths)
    → (((((leb n l.heads && leb n l.flows) && leb n l.highest) && leb n l.lowest) && leb y l.speeds) && leb y l.inflows) && leb (p * 4) l.spare
    ≡ long_enough (job_of job) l
enough_asked job ok en ey ep l = rw (en, ey, sym (nodes_length job ok), ep, sym (four_a_pipe job ok)) (simp (and_assoc, and-true))
