-- What a sink, a shelf and blocks in memory hold.
use Rattle.std.specs.Prelude.{ℕ, List, length, None, Some}
use Rattle.sage_outside.specs.declared.calls.Calls.{Calls}
use Rattle.sage_outside.specs.declared.blocks_in_memory.MemBlocks.{MemBlocks}
use Rattle.sage_outside.specs.declared.blocks_in_memory.MemStored.{MemStored}
use Rattle.sage_outside.specs.declared.blocks_in_memory.NeverBlocks.{NeverBlocks}
use Rattle.sage_outside.specs.declared.file_blocks.FileBlocks.{FileBlocks}
use Rattle.sage_outside.specs.declared.memory.MemSink.{MemSink}
use Rattle.sage_outside.specs.declared.memory.MemShelf.{MemShelf}
use Rattle.sage_outside.specs.Blocks.{Device, block_count, image_of}
use Rattle.sage_outside.specs.Calls.{faults_of}
use Rattle.sage_outside.specs.Memory.{files_of}
use Rattle.sage_outside.specs.Shelf.{Files}

-- the bytes that the sink was given
abbrev pub sink_bytes : MemSink → List ℕ
sink_bytes sink = sink.bytes.items

-- the calls of the sink
abbrev pub sink_calls : MemSink → Calls
sink_calls sink = sink.calls

-- the files of the shelf by name
abbrev pub shelf_files : MemShelf → Files
shelf_files shelf = files_of shelf.files.items

-- how often a call of the sink has failed
abbrev pub sink_faults : MemSink → ℕ
sink_faults sink = faults_of sink.calls

-- the calls of the shelf
abbrev pub shelf_calls : MemShelf → Calls
shelf_calls shelf = shelf.calls

-- how often a call of the shelf has failed
abbrev pub shelf_faults : MemShelf → ℕ
shelf_faults shelf = faults_of shelf.calls

-- the calls of the blocks
abbrev pub blocks_calls : MemBlocks → Calls
blocks_calls blocks = blocks.calls

-- the calls of the opened file
abbrev pub stored_calls : MemStored → Calls
stored_calls file = file.calls

-- blocks of bytes in memory, which are told
abbrev pub device_of : List ℕ → ℕ → ℕ → Device
device_of bytes faults reads = record {
  image = Some (image_of bytes);
  count = block_count (length bytes);
  faults = faults;
  reads = reads;
}

-- the blocks with their counts
abbrev pub mem_device : MemBlocks → Device
mem_device blocks = device_of blocks.bytes.now (faults_of blocks.calls) blocks.reads

-- the blocks that never fail, with their count of reads
abbrev pub never_device : NeverBlocks → Device
never_device blocks = device_of blocks.bytes.now 0 blocks.reads

-- the opened file with its counts
abbrev pub stored_device : MemStored → Device
stored_device file = device_of file.bytes.items (faults_of file.calls) file.reads

-- the file of the system with its counts, whose bytes are not told
abbrev pub file_device : {F : Type 0} → FileBlocks F → Device
file_device file = record {
  image = None;
  count = block_count file.size;
  faults = file.faults;
  reads = file.reads;
}
