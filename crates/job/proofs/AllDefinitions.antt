-- All definitions of the job that a figure computes through: `unfolding opened` opens each of them. Assumes nothing.
use lib.Ieee.{of_bits, lt}
use Rattle.fields.specs.Bytes.{u64_at, f64_at, zero_bits_at}
use Rattle.loops.specs.Loops.{all_below, listed}
use Rattle.job.specs.Job.{laid_from, laid, sections_of, sections, friction_at, node_at, initial_at, floor_at, entry_at, scheduled, with_value}
use Rattle.job.specs.Format.{table, pipes_in, reaches_of, kind_in, friction_in, initial_in, schedule_count, place_of, node_in, nodes_in, trips_in, job_of}
use Rattle.job.specs.Questions.{size_fits, pairs_fit, follows, tables_follow, steps_fit, holds_records, joins, pipes_join, sections_fit, constant_fits, constants_fit, kind_fits, kinds_fit, count_fits, each_count_fits, counts_fit, is_pump, first_of_node, rundown_fits, trip_fits, trips_fit, all_finite, has_no_figures, valve_fits, pump_fits, figures_fit_kind, figure_fits, figures_fit, ends_at, has_end, nodes_met, r_fits, friction_fits, friction_right, finite_section, section_fits, initial_fits, initial_right, entry_fits, schedule_fits, schedules_fit, schedules_right, pair_questions, pipe_questions, node_questions, value_questions, questions, first_no, refusal}
use Rattle.job.specs.JobQ.{job_q}
use Rattle.job.specs.OwnJobs.{job_of_all_kinds, wrapped_pairs}
use Rattle.job.specs.SixPairs.{job_q_empty_counts, job_q_long_counts, openings, slow_closure}
use Rattle.job.specs.SevenPairs.{job_q_empty_trips, job_q_long_counts_empty_trips, two_trips, long_counts_trip}

unfoldable pub opened : Unit {0}
unfolding of_bits lt u64_at f64_at zero_bits_at all_below listed laid_from laid sections_of sections friction_at node_at initial_at floor_at entry_at scheduled with_value table pipes_in reaches_of kind_in friction_in initial_in schedule_count place_of node_in nodes_in trips_in job_of size_fits pairs_fit follows tables_follow steps_fit holds_records joins pipes_join sections_fit constant_fits constants_fit kind_fits kinds_fit count_fits each_count_fits counts_fit is_pump first_of_node rundown_fits trip_fits trips_fit all_finite has_no_figures valve_fits pump_fits figures_fit_kind figure_fits figures_fit ends_at has_end nodes_met r_fits friction_fits friction_right finite_section section_fits initial_fits initial_right entry_fits schedule_fits schedules_fit schedules_right pair_questions pipe_questions node_questions value_questions questions first_no refusal job_q job_of_all_kinds wrapped_pairs job_q_empty_counts job_q_long_counts openings slow_closure job_q_empty_trips job_q_long_counts_empty_trips two_trips long_counts_trip
opened = tt
