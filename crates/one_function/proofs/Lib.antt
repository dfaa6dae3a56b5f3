mod Known
mod Checked
mod Stored
