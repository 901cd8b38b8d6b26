-- What a disk in memory holds and held, what it has counted, and its room.
use Rattle.std.specs.Prelude.{ℕ, List, length, take}
use Rattle.hx_disk.specs.Disk.{Room}
use Rattle.hx_disk.specs.File.{FileState}
use Rattle.hx_memdisk.specs.Event.{Event}
use Rattle.hx_memdisk.specs.Replay.{file_after}
use Rattle.hx_memdisk.specs.declared.course.Course.{Course}
use Rattle.hx_memdisk.specs.declared.memdisk.MemDisk.{MemDisk}

-- the recorded calls, the oldest first
abbrev pub calls_of : MemDisk → List Event
calls_of d = d.log.items

-- each file now: what all recorded calls have made of it
abbrev pub files_of : MemDisk → ℕ → FileState
files_of d f = file_after (calls_of d) f

-- each file at a moment: what so many of the recorded calls had made of it
abbrev pub past_of : MemDisk → ℕ → ℕ → FileState
past_of d t f = file_after (take t (calls_of d)) f

-- the moment is the number of recorded calls
abbrev pub recorded : MemDisk → ℕ
recorded d = length (calls_of d)

-- the plan, and the counts of calls, of writes and of faults
abbrev pub course_of : MemDisk → Course
course_of d = d.course

abbrev pub faults_of : MemDisk → ℕ
faults_of d = d.course.faults

abbrev pub room_of : MemDisk → Room
room_of d = record { file = d.room_file; end = d.room_end; calls = d.room_calls }
