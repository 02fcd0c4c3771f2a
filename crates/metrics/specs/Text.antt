-- Prometheus' text format, version 0.0.4: of each metric its help, its type and its samples.
use Rattle.std.specs.Prelude.{ℕ, ◌==◌, if◌then◌else◌, List, [], ◌++◌, codes, decimal, Option, None, Some}
use Rattle.std.specs.List.{flat_map}
use Rattle.http_message.specs.Status.{number, statuses}
use Rattle.http_message.specs.declared.status.Status.{Status}
use Rattle.http_message.specs.Routes.{routes, row}
use Rattle.http_message.specs.declared.route.Route.{Route}
use Rattle.metrics.specs.Counters.{CountersParts, replies_of}

-- the lines before the samples of a metric: its name with its help, and with its type
unfoldable pub metric : List ℕ → List ℕ → List ℕ → List ℕ
metric name help kind =
    codes "# HELP " ++ name ++ codes " " ++ help ++ codes "\n# TYPE " ++ name ++ codes " " ++ kind ++ codes "\n"

-- a sample: its name, with labels in braces, and its value
unfoldable pub value_text : ℕ → List ℕ
value_text value = codes " " ++ decimal value ++ codes "\n"

abbrev pub sample : List ℕ → ℕ → List ℕ
sample name value = name ++ value_text value

-- a metric with one sample
abbrev pub single_text : List ℕ → List ℕ → List ℕ → ℕ → List ℕ
single_text name help kind value = metric name help kind ++ sample name value

-- the path of a route
abbrev pub path : Option Route → List ℕ
path None = []
path (Some route) = (row route).path

-- the name of a count of replies
unfoldable pub reply_name : Option Route → Status → List ℕ
reply_name route status =
    codes "extractd_requests_total{route=\"" ++ path route ++ codes "\",status=\"" ++ decimal (number status) ++ codes "\"}"

-- its sample, if the count isn't 0
abbrev pub reply_line : Option Route → Status → ℕ → List ℕ
reply_line route status count = if count == 0 then [] else sample (reply_name route status) count

-- the samples of a route, or of paths without one
abbrev pub replies_text : CountersParts → Option Route → List ℕ
replies_text counters route = flat_map (λ status. reply_line route status (replies_of counters route status)) statuses

abbrev pub requests_metric : List ℕ
requests_metric = metric (codes "extractd_requests_total") (codes "Requests that got a reply, by route and status.") (codes "counter")

abbrev pub requests_text : CountersParts → List ℕ
requests_text counters =
    requests_metric ++ flat_map (λ route. replies_text counters (Some route)) routes ++ replies_text counters None

abbrev pub jobs_metric : List ℕ
jobs_metric = metric (codes "extractd_jobs") (codes "Open jobs, by progress.") (codes "gauge")

abbrev pub running_sample : ℕ → List ℕ
running_sample running = sample (codes "extractd_jobs{progress=\"running\"}") running

abbrev pub finished_sample : ℕ → List ℕ
finished_sample finished = sample (codes "extractd_jobs{progress=\"finished\"}") finished

abbrev pub jobs_text : ℕ → ℕ → List ℕ
jobs_text running finished = jobs_metric ++ running_sample running ++ finished_sample finished

abbrev pub judged_text : ℕ → List ℕ
judged_text judged =
    single_text (codes "extractd_segments_judged_total")
    (codes "Segments on which a program or filter was run, for jobs, /extract and /select.") (codes "counter") judged

abbrev pub rows_text : ℕ → List ℕ
rows_text rows =
    single_text (codes "extractd_rows_written_total") (codes "Rows in replies of /extract, /select and /jobs/{id}.") (codes "counter") rows

-- nothing if the start isn't known
abbrev pub start_text : Option ℕ → List ℕ
start_text None = []
start_text (Some start) =
    single_text (codes "process_start_time_seconds") (codes "Start time of the process since the Unix epoch, in seconds.") (codes "gauge") start

-- all metrics, with the numbers of running and of finished jobs
abbrev pub text : CountersParts → ℕ → ℕ → List ℕ
text counters running finished =
    requests_text counters ++ jobs_text running finished ++ judged_text counters.judged ++ rows_text counters.rows ++ start_text counters.start
