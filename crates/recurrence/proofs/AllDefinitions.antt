-- All definitions that a figure computes through: `unfolding opened` opens each of them. Assumes nothing.
use lib.Ieee.{to_bits, of_int, add, sub, mul, div, neg, eq}
use Rattle.loops.specs.Loops.{first_below}
use Rattle.root.specs.Root.{root_of}
use Rattle.wave.specs.Wave.{magnitude, from_above, from_below, inner, finish_k, start_k, finish_end, start_end, sum_from, sums_of}
use Rattle.wave.specs.Nodes.{rooted, valve_w, valve_y, orifice_argument, orifice_rate, orifice_flow, valve_flow, pump_h, pump_y, pump_argument, lift_flow, pump_flow, head_less, head_more, judged, node_head, inflow_of, node_inflow, rundown}
use Rattle.job.proofs.AllDefinitions as Job
use Rattle.recurrence.specs.State.{no_point, no_drive, point_at, drive_at, drive_of, start_point, start_drive, start_state}
use Rattle.recurrence.specs.Step.{along_pipes, last_that, value_by, value_at, nodes_with, along, cp_after, cm_before, k_at_finish, k_at_start, ends_of, sums_at, head_at, new_drive, located, at_finish, at_start, between, end_to_end, new_in, new_at, raised, lowered, updated, new_point, advanced}
use Rattle.recurrence.specs.Scan.{cause_number, finite_point, finite_drive, driven_at, fault_of, earlier, scan, outcome_of, step, acceptable_at, acceptable}
use Rattle.recurrence.specs.Run.{stop_answer, answer_of, ask, started, start, onward, steps, within_limit, run_on, left_by, played_from, answers_from, played, answers, one_more, finished_of, if_ran, steps_by, steps_done_from, steps_done}
use Rattle.recurrence.specs.Calls.{enough_lent, point_in, drive_in, state_in, holds, rows_of, rows_after, read_first, called, start_result, start_call, run_on_result, run_on_call}
use Rattle.recurrence.specs.Figures.{patched, job_q_at12, job_q_rising, job_q_on_floor, job_q_closing, job_q_too_open, lent_sevens, ran_on}
use Rattle.recurrence.specs.OwnFigures.{after, answer_after, two_pipes, outlet_at, three_pipes, both_faults, faults_upward, minus_zero}

unfoldable pub opened : Unit {0}
unfolding Job.opened to_bits of_int add sub mul div neg eq first_below root_of magnitude from_above from_below inner finish_k start_k finish_end start_end sum_from sums_of rooted valve_w valve_y orifice_argument orifice_rate orifice_flow valve_flow pump_h pump_y pump_argument lift_flow pump_flow head_less head_more judged node_head inflow_of node_inflow rundown no_point no_drive point_at drive_at drive_of start_point start_drive start_state along_pipes last_that value_by value_at nodes_with along cp_after cm_before k_at_finish k_at_start ends_of sums_at head_at new_drive located at_finish at_start between end_to_end new_in new_at raised lowered updated new_point advanced cause_number finite_point finite_drive driven_at fault_of earlier scan outcome_of step acceptable_at acceptable stop_answer answer_of ask started start onward steps within_limit run_on left_by played_from answers_from played answers one_more finished_of if_ran steps_by steps_done_from steps_done enough_lent point_in drive_in state_in holds rows_of rows_after read_first called start_result start_call run_on_result run_on_call patched job_q_at12 job_q_rising job_q_on_floor job_q_closing job_q_too_open lent_sevens ran_on after answer_after two_pipes outlet_at three_pipes both_faults faults_upward minus_zero
opened = tt
